-- The effect of a packet on a handler.
use Rattle.std.specs.Prelude.{◌≡◌, ◌≢◌, ◌⊎◌, ℕ, pos, List, false}
use Rattle.ados_name.specs.declared.stamp.Date3.{Date3}
use Rattle.ados_change.specs.NewBlocks.{KeepsRest}
use Rattle.ados_model.specs.Tree.{Tree}
use Rattle.ados_model.specs.Stands.{Stands}
use Rattle.ados_model.specs.declared.packet.Packet.{Packet}
use Rattle.ados_model.specs.declared.answer.Answer.{Answer}
use Rattle.ados_model.specs.Session.{Session}
use Rattle.ados_handler.specs.HandlerState.{HandlerState}
use Rattle.ados_handler.specs.ProperSession.{IsProperSession}
use Rattle.ados_model.specs.Meaning.{Meaning}
use Rattle.ados_model.specs.DiskDate.{sets_disk_date}
use Rattle.ados_handler.specs.Room.{TellsRoom}

-- the image represents a tree, and the holds are proper for that tree
pub record IsSoundHandler (image : List ℕ) (session : Session) : Type 0 where
  pub tree : Tree
  pub stands : Stands image tree
  pub holds : IsProperSession tree session

-- a packet changes no byte, or it leaves bytes outside all fields and the boot blocks untouched, and allocates the
-- lowest free blocks; if it is refused or sets no disk date, it changes no byte
pub record LeavesImage (t : Tree) (old : HandlerState) (packet : Packet) (new : HandlerState) (answer : Answer)
    : Type 0 where
  pub keeps : (new.image ≡ old.image) ⊎ KeepsRest old.image new.image
  pub rest : (answer.res2 ≢ pos 0) ⊎ (sets_disk_date t old.session packet ≡ false) → new.image ≡ old.image

-- a packet is served with a time stamp: its meaning leads from the old tree and holds to the new ones
pub record HandlerGives (old : HandlerState) (packet : Packet) (now : Date3) (new : HandlerState) (answer : Answer)
    : Type 0 where
  pub old_tree : Tree
  pub new_tree : Tree
  pub stood : Stands old.image old_tree
  pub stands : Stands new.image new_tree
  pub means : Meaning old_tree old.session packet now new_tree new.session answer
  pub leaves : LeavesImage old_tree old packet new answer
  pub validated : new.was_validated ≡ old.was_validated
  pub room : TellsRoom old.places new.places packet answer
