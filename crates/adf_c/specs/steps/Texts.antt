-- The actions whose packets have texts.
use Rattle.std.specs.Prelude.{⊤}
use Rattle.ados_model.specs.declared.action.Action.{Action}
use Rattle.ados_model.specs.declared.action.Action.TheVariants as action

-- the packet has one text
abbrev pub HasText : Action → Type 0
HasText action.LocateObject = ⊤
HasText action.RenameDisk = ⊤
HasText action.DeleteObject = ⊤
HasText action.SetProtect = ⊤
HasText action.CreateDir = ⊤
HasText action.SetDate = ⊤
HasText action.FindUpdate = ⊤
HasText action.FindInput = ⊤
HasText action.FindOutput = ⊤
HasText _ = ⊥

-- the packet has two texts
abbrev pub HasTwoTexts : Action → Type 0
HasTwoTexts action.RenameObject = ⊤
HasTwoTexts action.SetComment = ⊤
HasTwoTexts _ = ⊥
