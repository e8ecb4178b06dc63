-- Output of a file's bytes, and its faults.
use Rattle.std.specs.Prelude.{◌≡◌, ℕ, ◌⊎◌, Bool, true, false, List, take, Option}
use Rattle.std.specs.Io.KnownBytes.{Appends, Keeps}
use Rattle.ados_model.specs.declared.dos_error.DosError.TheVariants.{ObjectWrongType}
use Rattle.ados_model.specs.Tree.{Tree, bytes_of}
use Rattle.ados_model.specs.Change.{is_file}
use Rattle.adf_export.specs.declared.fault.OutFault.{OutFault}
use Rattle.adf_export.specs.declared.fault.OutFault.TheVariants.{Output}
use Rattle.adf_export.specs.Words.{LeadsTo, IsRefusal, IsWordFault}

-- a path argument leads to an object, which is a file or not, as `file` says
abbrev pub Finds : Tree → List ℕ → Bool → (ℕ → Type 0) → Type 0
Finds t word file P = (key : ℕ) × LeadsTo t word key × (is_file t key ≡ file) × P key

-- all bytes of the file at the path are written
abbrev pub IsPrinted : Tree → List ℕ → Option (List ℕ) → Option (List ℕ) → Type 0
IsPrinted t word old new = Finds t word true (λ key. Appends old new (bytes_of t key))

-- a fault: the path leads nowhere or to a directory; or the writer failed after a prefix of the bytes
abbrev pub IsPrintFault : Tree → List ℕ → Option (List ℕ) → Option (List ℕ) → OutFault → Type 0
IsPrintFault t word old new Output = Finds t word true (λ key. (n : ℕ) × Appends old new (take n (bytes_of t key)))
IsPrintFault t word old new fault = Keeps old new × (IsWordFault t word fault ⊎ Finds t word false (λ _. IsRefusal ObjectWrongType word fault))
