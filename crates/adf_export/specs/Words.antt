-- Path arguments of a command, and their faults.
use Rattle.std.specs.Prelude.{◌≡◌, ℕ, ◌⊎◌, List, [], ◌∷◌, map, All, Any, Result, Ok, ⊤}
use Rattle.std.specs.Str.{chars}
use Rattle.std.specs.String.{string_bytes}
use Rattle.ados_name.specs.Name.{steps}
use Rattle.ados_model.specs.declared.dos_error.DosError.{DosError}
use Rattle.ados_model.specs.Tree.{Tree, root}
use Rattle.ados_model.specs.Change.{walk_steps}
use Rattle.ados_model.specs.declared.dos_error.WalkFault.{WalkFault}
use Rattle.ados_model.specs.declared.dos_error.WalkFault.TheVariants.{ObjectNotFound}
use Rattle.adf_text.specs.Letters.{IsByte}
use Rattle.ados_volume.specs.Paths.{StopsAt}
use Rattle.adf_export.specs.declared.fault.OutFault.{OutFault}
use Rattle.adf_export.specs.declared.fault.OutFault.TheVariants.{Refused, Letter, Host, Memory}

-- the end of the walk from the root along an argument; its letters are the bytes of the path
abbrev pub led : Tree → List ℕ → Result ℕ WalkFault
led t word = walk_steps t (root t) (steps (chars word)) ObjectNotFound

-- an argument leads to the object with this key
abbrev pub LeadsTo : Tree → List ℕ → ℕ → Type 0
LeadsTo t word key = led t word ≡ Ok key

-- each of these arguments leads to the object with its key
abbrev pub LeadTo : Tree → List (List ℕ) → List ℕ → Type 0
LeadTo t words keys = map (led t) words ≡ map Ok keys

-- the objects of a command's path arguments; the root if there are none
abbrev pub AreAsked : Tree → List (List ℕ) → List ℕ → Type 0
AreAsked t [] keys = keys ≡ root t ∷ []
AreAsked t (word ∷ words) keys = LeadTo t (word ∷ words) keys

-- the argument is refused with this error, or there is no memory for the refusal
abbrev pub IsRefusal : DosError → List ℕ → OutFault → Type 0
IsRefusal error word (Refused refused) = (refused.error ≡ error) × (string_bytes refused.path ≡ word)
IsRefusal error word Memory = ⊤
IsRefusal error word _ = ⊥

-- the argument has a letter past U+00FF, or memory ran out
abbrev pub IsLetterFault : List ℕ → OutFault → Type 0
IsLetterFault word (Letter text) = (string_bytes text ≡ word) × (¬ All IsByte (chars word))
IsLetterFault word Memory = ⊤
IsLetterFault word _ = ⊥

-- why an argument leads nowhere: its walk stops with this error, or it is not a path
abbrev pub IsWordFault : Tree → List ℕ → OutFault → Type 0
IsWordFault t word (Refused refused) =
    (string_bytes refused.path ≡ word) × ((at : ℕ) × StopsAt t (chars word) ObjectNotFound (record { at = at; error = refused.error }))
IsWordFault t word fault = IsLetterFault word fault

-- one of these arguments leads nowhere, for this reason, or memory ran out
abbrev pub IsFaultOfSome : Tree → List (List ℕ) → OutFault → Type 0
IsFaultOfSome t words fault = (fault ≡ Memory) ⊎ Any (λ word. IsWordFault t word fault) words

-- the same, or the host files cannot be written
abbrev pub IsExtractFault : Tree → List (List ℕ) → OutFault → Type 0
IsExtractFault t words (Host fault) = ⊤
IsExtractFault t words fault = IsFaultOfSome t words fault
