-- What a list of calls of `jip_lib_serve` on one handle amounts to.
use Rattle.std.specs.Prelude.{◌≡◌, ◌≢◌, ℕ, ℤ, pos, true, List, [], ◌∷◌, Option, Some, MatchBool}
use Rattle.ados_name.specs.declared.stamp.Date3.{Date3}
use Rattle.ados_model.specs.Stands.{Stands}
use Rattle.ados_model.specs.Tree.{Tree}
use Rattle.ados_model.specs.declared.answer.Answer.{Answer}
use Rattle.ados_model.specs.declared.packet.Packet.{Packet}
use Rattle.ados_port.specs.History.{Run, Serving, last_server}
use Rattle.ados_run.specs.Keeping.{ServesBoth}
use Rattle.ados_run.specs.Runs.{BothSides}
use Rattle.ados_run.specs.TreeLists.{beside}
use Rattle.adf_c.specs.Dates.{date_of}
use Rattle.adf_c.specs.Answers.{buffer_after, told_of}
use Rattle.adf_c.specs.declared.values.answer.JipAnswer.{JipAnswer}
use Rattle.adf_c.specs.Calls.{CopiesImage, ServeEnds, SpellsFitting}
use Rattle.adf_c.specs.declared.desk.Desk.{Desk}
use Rattle.adf_c.specs.declared.packet.JipPacket.{JipPacket}

-- a call: the packet's struct, its texts and bytes, the caller's buffer and answer before and after it, and its status
pub record ServeCall : Type 0 where
  pub packet : JipPacket
  pub path : List ℕ
  pub text : List ℕ
  pub bytes : List ℕ
  pub before : List ℕ
  pub after : List ℕ
  pub answer_before : JipAnswer
  pub answer : JipAnswer
  pub status : ℤ

-- these calls were made on a handle one after another, each on what the one before left
abbrev pub AreMade : Option Desk → List ServeCall → Option Desk → Type 0
AreMade old [] new = new ≡ old
AreMade old (c ∷ calls) new =
    (next : Option Desk) × ServeEnds old next c.packet c.path c.text c.bytes c.before c.after c.answer_before c.answer c.status × AreMade next calls new

-- the call's struct, texts and bytes stand for the served packet, and the caller got its answer
pub record IsAnsweredBy (c : ServeCall) (s : Serving Packet Date3 Answer) : Type 0 where
  pub spelled : SpellsFitting c.packet c.path c.text c.bytes c.before s.packet
  pub moment : s.moment ≡ date_of c.packet.moment
  pub answered : c.answer ≡ told_of s.answer
  pub buffer : c.after ≡ buffer_after s.packet c.before s.answer.body

-- the served packets are those of the calls with status 0, in order; any other call left answer and buffer as they were
pub data AreAnswered : List ServeCall → List (Serving Packet Date3 Answer) → Type 0 where
  none : AreAnswered [] []
  next : {c : ServeCall} {calls : List ServeCall} {s : Serving Packet Date3 Answer} {served : List (Serving Packet Date3 Answer)}
      → c.status ≡ pos 0 → IsAnsweredBy c s → AreAnswered calls served → AreAnswered (c ∷ calls) (s ∷ served)
  not_served : {c : ServeCall} {calls : List ServeCall} {served : List (Serving Packet Date3 Answer)}
      → c.status ≢ pos 0 → c.answer ≡ c.answer_before → c.after ≡ c.before → AreAnswered calls served → AreAnswered (c ∷ calls) served

-- Calls on a handle are one history of its tree: each packet was served according to its meaning for the tree that the
-- packets before it left, and image and tree changed together. The image that the library then copies out represents the
-- last tree.
pub record AreOneRun (desk : Desk) (tree : Tree) (calls : List ServeCall) (new : Option Desk) : Type 0 where
  pub served : List (Serving Packet Date3 Answer)
  pub answered : AreAnswered calls served
  pub states : List BothSides
  pub run : Run ServesBoth (beside tree desk.handler) served states
  pub last : Desk
  pub left : new ≡ Some last
  pub handler : (last_server (beside tree desk.handler) states).handler ≡ last.handler
  pub copied : (before after : List ℕ) → CopiesImage new before after → Stands after (last_server (beside tree desk.handler) states).tree

-- the calls on a read-only handle change no byte of the image that the library then copies out
abbrev pub LeaveTheImage : Desk → Option Desk → Type 0
LeaveTheImage desk new = (before after : List ℕ) → CopiesImage new before after → after ≡ desk.handler.image

-- for any list of calls on an open handle
abbrev pub CallsAreOneRun : Type 0
CallsAreOneRun =
    (desk : Desk) (tree : Tree) (calls : List ServeCall) (new : Option Desk) → Stands desk.handler.image tree → AreMade (Some desk) calls new
    → MatchBool desk.read_only (LeaveTheImage desk new) (AreOneRun desk tree calls new)
