use Rattle.std.proofs.Common.{◌≡◌, ◌+◌, ◌%◌, rules, Bool, false, sym, subst, refl}
use Rattle.std.specs.Prelude.{MatchBool}
use Rattle.ados_name.specs.declared.stamp.Date3.{Date3}
use Rattle.ados_model.specs.declared.packet.Packet.{Packet}
use Rattle.ados_model.specs.declared.answer.Answer.{Answer}
use Rattle.adf_c.specs.Desk.{ServesAsHandler, ServesPacket, ServesReadOnly}
use Rattle.adf_c.specs.declared.desk.Desk.{Desk}
use Rattle.adf_c.proofs.desk.Desk.serve.Goals as goal

as_handler : (old new : Desk) (packet : Packet) (now : Date3) (answer : Answer) → old.read_only ≡ false → new.read_only ≡ old.read_only → ServesAsHandler old packet now new answer → ServesPacket old packet now new answer
as_handler old new packet now answer writes stays served = record {
  serves = subst (λ (b : Bool). MatchBool b (ServesReadOnly old packet now new answer) (ServesAsHandler old packet now new answer)) (sym writes) served;
  stays = stays;
}

pub returns-then-self : goal.returns-then-self
returns-then-self c =
    let new : Desk = record { handler = c.serve_read_only.new.handler; changes = c.args.self.now.changes; read_only = c.args.self.now.read_only } in
    let served : ServesReadOnly c.args.self.now c.args.packet c.args.moment new c.serve_read_only.result = record { gives = c.serve_read_only.ensures; counts = refl } in
    record {
      serves = subst (λ (b : Bool). MatchBool b (ServesReadOnly c.args.self.now c.args.packet c.args.moment new c.serve_read_only.result) (ServesAsHandler c.args.self.now c.args.packet c.args.moment new c.serve_read_only.result)) (sym c.if-self.true) served;
      stays = refl;
    }

pub returns-else-counts : goal.returns-else-counts
returns-else-counts c =
    let new : Desk = record { handler = c.serve-answer.new.self; changes = c.args.self.now.changes; read_only = c.args.self.now.read_only } in
    let served : ServesAsHandler c.args.self.now c.args.packet c.args.moment new c.serve-answer.result = search rules in
    as_handler c.args.self.now new c.args.packet c.args.moment c.serve-answer.result c.if-self.false refl served

pub returns-then-answer-eq0 : goal.returns-then-answer-eq0
returns-then-answer-eq0 c =
    let new : Desk = record { handler = c.serve-answer.new.self; changes = (c.args.self.now.changes + 1) % 18446744073709551616; read_only = c.args.self.now.read_only } in
    let served : ServesAsHandler c.args.self.now c.args.packet c.args.moment new c.serve-answer.result = search rules in
    as_handler c.args.self.now new c.args.packet c.args.moment c.serve-answer.result c.if-self.false refl served
