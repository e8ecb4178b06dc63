-- The calls on a handle, one after another, are one run.
use Rattle.std.proofs.Common.{◌≡◌, ◌≢◌, ◌⊎◌, inl, inr, ℕ, zero, suc, pos, Bool, true, false, List, [], ◌∷◌, Option, Some, refl, sym, ap, ◌∙◌, subst}
use Rattle.std.specs.Bool.{MatchBool}
use Rattle.std.proofs.lemmas.Option.{same_Some}
use Rattle.ados_name.specs.declared.stamp.Date3.{Date3}
use Rattle.ados_handler.specs.Gives.{HandlerGives}
use Rattle.ados_model.proofs.OneTree.{one_tree}
use Rattle.ados_model.specs.Meaning.{Meaning}
use Rattle.ados_handler.specs.HandlerState.{HandlerState}
use Rattle.ados_model.specs.Stands.{Stands}
use Rattle.ados_model.specs.Tree.{Tree}
use Rattle.ados_model.specs.declared.answer.Answer.{Answer}
use Rattle.ados_model.specs.declared.packet.Packet.{Packet}
use Rattle.ados_port.specs.History.{Serving, last_server}
use Rattle.ados_run.specs.Keeping.{ServesBoth}
use Rattle.ados_run.specs.Runs.{BothSides}
use Rattle.ados_run.specs.TreeLists.{beside}
use Rattle.adf_c.specs.Dates.{date_of}
use Rattle.adf_c.specs.Status.{refusal_number}
use Rattle.adf_c.specs.declared.values.refusal.Refusal.{Refusal}
use Rattle.adf_c.specs.declared.values.refusal.Refusal.TheVariants.{NotAnImage, NoMemory, WrongArgument}
use Rattle.adf_c.specs.Calls.{CopiesImage, RefusesServe, Serves}
use Rattle.adf_c.specs.Desk.{ServesAsHandler, ServesPacket, ServesReadOnly}
use Rattle.adf_c.specs.History.{AreMade, AreOneRun, CallsAreOneRun, LeaveTheImage, ServeCall}
use Rattle.adf_c.specs.History.AreAnswered.{none, next, not_served}
use Rattle.adf_c.specs.declared.desk.Desk.{Desk}

-- the status of a refusal is not 0
refused_status : (refusal : Refusal) → pos (refusal_number refusal) ≢ pos 0
refused_status NotAnImage e = cc e
refused_status NoMemory e = cc e
refused_status WrongArgument e = cc e

-- a refused call leaves handle and buffer
left_alone : (refusal : Refusal) (old new : Option Desk) (path text before after : List ℕ) → RefusesServe old new path text before after refusal → (new ≡ old) × (after ≡ before)
left_alone NotAnImage old new path text before after refused = absurd refused
left_alone NoMemory old new path text before after refused = refused
left_alone WrongArgument old new path text before after refused = (refused.0, refused.1)

-- a packet of a desk that may write, and one of a desk that may not
as_handler : (b : Bool) (old new : Desk) (packet : Packet) (now : Date3) (answer : Answer) → b ≡ false
    → MatchBool b (ServesReadOnly old packet now new answer) (ServesAsHandler old packet now new answer) → HandlerGives old.handler packet now new.handler answer
as_handler true old new packet now answer e serves = absurd (cc e)
as_handler false old new packet now answer e serves = serves.gives

stays_protected : (b : Bool) (old new : Desk) (packet : Packet) (now : Date3) (answer : Answer) → b ≡ true
    → MatchBool b (ServesReadOnly old packet now new answer) (ServesAsHandler old packet now new answer) → new.handler.image ≡ old.handler.image
stays_protected true old new packet now answer e serves = serves.gives.image
stays_protected false old new packet now answer e serves = absurd (cc e)

-- a packet of a handler with this tree, with the tree after it
served_beside : (tree : Tree) (old new : HandlerState) (packet : Packet) (now : Date3) (answer : Answer) → Stands old.image tree → (given : HandlerGives old packet now new answer)
    → ServesBoth (beside tree old) packet now (beside given.new_tree new) answer
served_beside tree old new packet now answer stood given = record {
  gives = given;
  meant = record {
    means = subst (λ (u : Tree). Meaning u old.session packet now given.new_tree new.session answer) (one_tree old.image given.old_tree tree given.stood stood) given.means;
    stands = given.stands;
  };
}

-- the image that is copied from an open handle
copied_from : (desk : Desk) (before after : List ℕ) → CopiesImage (Some desk) before after → after ≡ desk.handler.image
copied_from desk before after (found, is, (length_is, same)) = same ∙ ap (λ (d : Desk). d.handler.image) (sym (same_Some _ _ is))

run_on : (desk : Desk) (tree : Tree) (calls : List ServeCall) (new : Option Desk) → desk.read_only ≡ false → Stands desk.handler.image tree → AreMade (Some desk) calls new
    → AreOneRun desk tree calls new
run_on desk tree [] new writes stood made = record {
  served = [];
  answered = none;
  states = [];
  run = tt;
  last = desk;
  left = made;
  handler = refl;
  copied = λ before after copies.
      subst (λ (image : List ℕ). Stands image tree) (sym (copied_from desk before after (subst (λ (held : Option Desk). CopiesImage held before after) made copies))) stood;
}
run_on desk tree (c ∷ calls) new writes stood (middle, inl (well, s), rest) =
    let was : s.old_desk ≡ desk = same_Some _ _ (sym s.was) in
    let (answer, serves, told, after) = s.served in
    let packet_served : ServesPacket desk s.packet (date_of c.packet.moment) s.new_desk answer =
    subst (λ (d : Desk). ServesPacket d s.packet (date_of c.packet.moment) s.new_desk answer) was serves in
    let given : HandlerGives desk.handler s.packet (date_of c.packet.moment) s.new_desk.handler answer =
    as_handler desk.read_only desk s.new_desk s.packet (date_of c.packet.moment) answer writes packet_served.serves in
    let more : AreOneRun s.new_desk given.new_tree calls new =
    run_on s.new_desk given.new_tree calls new (packet_served.stays ∙ writes) given.stands (subst (λ (held : Option Desk). AreMade held calls new) s.is rest) in
    let serving : Serving Packet Date3 Answer = record { client = 1; packet = s.packet; moment = date_of c.packet.moment; answer = answer } in
    record {
      served = serving ∷ more.served;
      answered = next well (record { spelled = s.spelled; moment = refl; answered = told; buffer = after }) more.answered;
      states = beside given.new_tree s.new_desk.handler ∷ more.states;
      run = (served_beside tree desk.handler s.new_desk.handler s.packet (date_of c.packet.moment) answer stood given, more.run);
      last = more.last;
      left = more.left;
      handler = more.handler;
      copied = more.copied;
    }
run_on desk tree (c ∷ calls) new writes stood (middle, inr (refusal, status, (refused, same_answer)), rest) =
    let (same, same_buffer) = left_alone refusal (Some desk) middle c.path c.text c.before c.after refused in
    let more : AreOneRun desk tree calls new = run_on desk tree calls new writes stood (subst (λ (held : Option Desk). AreMade held calls new) same rest) in
    record {
      served = more.served;
      answered = not_served (λ zero_is. refused_status refusal (sym status ∙ zero_is)) same_answer same_buffer more.answered;
      states = more.states;
      run = more.run;
      last = more.last;
      left = more.left;
      handler = more.handler;
      copied = more.copied;
    }

leaves_on : (desk : Desk) (calls : List ServeCall) (new : Option Desk) → desk.read_only ≡ true → AreMade (Some desk) calls new → LeaveTheImage desk new
leaves_on desk [] new reads made = λ before after copies. copied_from desk before after (subst (λ (held : Option Desk). CopiesImage held before after) made copies)
leaves_on desk (c ∷ calls) new reads (middle, inl (well, s), rest) =
    let was : s.old_desk ≡ desk = same_Some _ _ (sym s.was) in
    let (answer, serves, told, after) = s.served in
    let packet_served : ServesPacket desk s.packet (date_of c.packet.moment) s.new_desk answer =
    subst (λ (d : Desk). ServesPacket d s.packet (date_of c.packet.moment) s.new_desk answer) was serves in
    λ before after copies.
    leaves_on s.new_desk calls new (packet_served.stays ∙ reads) (subst (λ (held : Option Desk). AreMade held calls new) s.is rest) before after copies
    ∙ stays_protected desk.read_only desk s.new_desk s.packet (date_of c.packet.moment) answer reads packet_served.serves
leaves_on desk (c ∷ calls) new reads (middle, inr (refusal, status, (refused, same_answer)), rest) =
    leaves_on desk calls new reads (subst (λ (held : Option Desk). AreMade held calls new) (left_alone refusal (Some desk) middle c.path c.text c.before c.after refused).0 rest)

pub calls_are_one_run : CallsAreOneRun
calls_are_one_run desk tree calls new stood made = go desk.read_only refl
  where
    go : (b : Bool) → desk.read_only ≡ b → MatchBool b (LeaveTheImage desk new) (AreOneRun desk tree calls new)
    go true is = leaves_on desk calls new is made
    go false is = run_on desk tree calls new is stood made
