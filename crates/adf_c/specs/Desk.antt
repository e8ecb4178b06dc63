-- How a desk serves a packet.
use Rattle.std.specs.Prelude.{◌≡◌, ◌+◌, ◌%◌, ◌^◌, ℕ, Bool, true, false, ◌&&◌, if◌then◌else◌, MatchBool}
use Rattle.ados_name.specs.declared.stamp.Date3.{Date3}
use Rattle.ados_model.specs.declared.packet.Packet.{Packet}
use Rattle.ados_model.specs.declared.packet.Packet.TheVariants.{RenameDisk, DeleteObject, RenameObject, SetProtect, CreateDir, SetComment, SetDate, Write, FindUpdate, FindOutput, SetFileSize}
use Rattle.ados_model.specs.declared.answer.Answer.{Answer}
use Rattle.ados_handler.specs.Gives.{HandlerGives}
use Rattle.ados_model.specs.Meaning.{is_number}
use Rattle.adf_c.specs.ReadOnly.{GivesReadOnly}
use Rattle.adf_c.specs.declared.desk.Desk.{Desk}

-- the packet, if served, may change the image
abbrev pub may_change : Packet → Bool
may_change (RenameDisk name) = true
may_change (DeleteObject lock path) = true
may_change (RenameObject from_lock from to_lock to) = true
may_change (SetProtect lock path bits) = true
may_change (CreateDir lock path) = true
may_change (SetComment lock path comment) = true
may_change (SetDate lock path date) = true
may_change (Write handle bytes) = true
may_change (FindUpdate lock path) = true
may_change (FindOutput lock path) = true
may_change (SetFileSize handle offset mode) = true
may_change _ = false

-- the next count of 64 bits
abbrev pub next_count : ℕ → ℕ
next_count n = (n + 1) % 2 ^ 64

-- the count after a packet with this answer: the next one if the packet was served and may have changed the image
abbrev pub count_after : ℕ → Packet → Answer → ℕ
count_after n packet answer = if may_change packet && is_number 0 answer.res2 then next_count n else n

-- a desk serves a packet as its handler does; while the count is the same, so is the image
pub record ServesAsHandler (old : Desk) (packet : Packet) (now : Date3) (new : Desk) (answer : Answer) : Type 0 where
  pub gives : HandlerGives old.handler packet now new.handler answer
  pub counts : new.changes ≡ count_after old.changes packet answer
  pub tells : new.changes ≡ old.changes → new.handler.image ≡ old.handler.image

-- a read-only desk serves a packet; image and count never change
pub record ServesReadOnly (old : Desk) (packet : Packet) (now : Date3) (new : Desk) (answer : Answer) : Type 0 where
  pub gives : GivesReadOnly old.handler packet now new.handler answer
  pub counts : new.changes ≡ old.changes

-- a desk serves a packet, and stays read-only or not
pub record ServesPacket (old : Desk) (packet : Packet) (now : Date3) (new : Desk) (answer : Answer) : Type 0 where
  pub serves : MatchBool old.read_only (ServesReadOnly old packet now new answer) (ServesAsHandler old packet now new answer)
  pub stays : new.read_only ≡ old.read_only
