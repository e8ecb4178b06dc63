-- The answers of a read-only handle.
use Rattle.std.specs.Prelude.{◌≡◌, pos, MatchBool}
use Rattle.ados_name.specs.declared.stamp.Date3.{Date3}
use Rattle.ados_model.specs.Tree.{Tree}
use Rattle.ados_model.specs.Stands.{Stands}
use Rattle.ados_model.specs.Packet.{action_of, failure_of, handed_back}
use Rattle.ados_handler.specs.HandlerState.{HandlerState}
use Rattle.ados_model.specs.declared.packet.Packet.{Packet}
use Rattle.ados_model.specs.declared.answer.Answer.{Answer}
use Rattle.ados_model.specs.declared.answer.Body.{Body}
use Rattle.ados_model.specs.declared.answer.Body.TheVariants.{Disk}
use Rattle.ados_handler.specs.Gives.{HandlerGives}
use Rattle.ados_handler.specs.Writes.{would_write}

-- the answer to a packet that the write protection of the disk refuses: its failure value, and 214
abbrev pub protected_answer : Packet → Answer
protected_answer packet = record { action = action_of packet; res1 = failure_of packet; res2 = pos 214; body = handed_back packet }

-- the same answer, about a disk that is write protected (80)
abbrev pub protected_body : Body → Body
protected_body (Disk info) = Disk (record info { state = 80 })
protected_body body = body

abbrev pub of_protected_disk : Answer → Answer
of_protected_disk answer = record answer { body = protected_body answer.body }

-- the packet is refused, and nothing changes
pub record IsProtected (old : HandlerState) (packet : Packet) (new : HandlerState) (answer : Answer) : Type 0 where
  pub same : new ≡ old
  pub answered : answer ≡ protected_answer packet

-- the handler serves the packet, and only the state of the disk is told differently
pub record AnswersAsHandler (old : HandlerState) (packet : Packet) (now : Date3) (new : HandlerState) (answer : Answer) : Type 0 where
  pub given : Answer
  pub gives : HandlerGives old packet now new given
  pub answered : answer ≡ of_protected_disk given

-- a packet that would change the disk is refused, any other is answered as by the handler; the image never changes
pub record GivesReadOnly (old : HandlerState) (packet : Packet) (now : Date3) (new : HandlerState) (answer : Answer) : Type 0 where
  pub tree : Tree
  pub stood : Stands old.image tree
  pub answers : MatchBool (would_write tree old.session packet) (IsProtected old packet new answer) (AnswersAsHandler old packet now new answer)
  pub image : new.image ≡ old.image
