use Rattle.std.proofs.Common.{arith}
use Rattle.cases.proofs.CaseEnds.{ends_take}
use Rattle.cases.proofs.hand.Port.take.Goals as goal

pub invariant_of-self : goal.invariant_of-self
invariant_of-self g c =
    record {
      all = ends_take c.args.self.now.handler c.args.self.now.ends.items _ c.index_mut-end.result.now c.take.new.self c.args.self.now.all (omega (arith, c.if-client-eq0.false, c.if-client-len.false, c.len.ensures, c.args.self.now.ends.ok)) c.index_mut-end.ensures.value c.take.ensures.same;
    }
