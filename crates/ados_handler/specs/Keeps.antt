-- Law: the meaning of packets keeps tree and session proper.
use Rattle.std.specs.Prelude.{ℕ, IsSome, IsTrue, ◌↔◌}
use Rattle.ados_name.specs.declared.stamp.Date3.{Date3}
use Rattle.ados_name.specs.Path.{IsPathText}
use Rattle.ados_model.specs.Tree.{Tree, Proper}
use Rattle.ados_model.specs.declared.packet.Packet.{Packet}
use Rattle.ados_model.specs.declared.packet.Packet.TheVariants.{LocateObject, RenameDisk, DeleteObject, RenameObject, SetProtect, CreateDir, SetComment, SetDate, FindUpdate, FindInput, FindOutput}
use Rattle.ados_model.specs.declared.answer.Answer.{Answer}
use Rattle.ados_change.specs.Conditions.{IsUnder}
use Rattle.ados_model.specs.Session.{Session}
use Rattle.ados_model.specs.Objects.{is_under}
use Rattle.ados_handler.specs.ProperSession.{IsProperSession}
use Rattle.ados_model.specs.Meaning.{Meaning}

-- the texts of the packet are values of `PathText`: at most 255 bytes, each below 256
abbrev pub HasPathTexts : Packet → Type 0
HasPathTexts (LocateObject lock path mode) = IsPathText path
HasPathTexts (RenameDisk name) = IsPathText name
HasPathTexts (DeleteObject lock path) = IsPathText path
HasPathTexts (RenameObject from_lock from to_lock to) = IsPathText from × IsPathText to
HasPathTexts (SetProtect lock path bits) = IsPathText path
HasPathTexts (CreateDir lock path) = IsPathText path
HasPathTexts (SetComment lock path comment) = IsPathText path × IsPathText comment
HasPathTexts (SetDate lock path date) = IsPathText path
HasPathTexts (FindUpdate lock path) = IsPathText path
HasPathTexts (FindInput lock path) = IsPathText path
HasPathTexts (FindOutput lock path) = IsPathText path
HasPathTexts _ = Unit {0}

-- this packet keeps tree and session proper
abbrev pub KeepsProper : Packet → Type 0
KeepsProper packet =
    (t new_tree : Tree) (s new_session : Session) (now : Date3) (answer : Answer)
    → Proper t → IsProperSession t s → Meaning t s packet now new_tree new_session answer
    → Proper new_tree × IsProperSession new_tree new_session

-- each packet keeps them proper
abbrev pub MeaningKeepsProper : Type 0
MeaningKeepsProper = (packet : Packet) → HasPathTexts packet → KeepsProper packet

-- Law: in a proper tree, `is_under` decides whether a chain of parents leads from a node to another key
abbrev pub UnderIsTold : Type 0
UnderIsTold = (t : Tree) → Proper t → (above key : ℕ) → IsSome (t.nodes key) → IsTrue (is_under t above key) ↔ IsUnder t above key
