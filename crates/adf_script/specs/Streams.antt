-- Data from a reader to a writer.
use Rattle.std.specs.Prelude.{List, ℕ, Option}
use Rattle.std.specs.Io.KnownBytes.{Consumes, IsAtEnd}
use Rattle.adf_io.specs.Prefix.{Writes}
use Rattle.adf_io.specs.declared.input.InputFault.{InputFault}
use Rattle.adf_io.specs.declared.input.InputFault.TheVariants as input
use Rattle.adf_script.specs.declared.fault.TryFault.{TryFault}
use Rattle.adf_script.specs.declared.fault.TryFault.TheVariants.{Read, Memory, TurnLimit}

-- everything the reader has is read, and the written text fits it; each stream is given before and after
abbrev pub ReadsAndWrites : Option (List ℕ) → Option (List ℕ) → Option (List ℕ) → Option (List ℕ)
    → (List ℕ → List ℕ → Type 0) → Type 0
ReadsAndWrites reader_old reader_new writer_old writer_new Fits =
    (read : List ℕ) × Consumes reader_old reader_new read × IsAtEnd reader_new
    × Writes writer_old writer_new (Fits read)

-- a failed input, as the fault of a script
abbrev pub input_fault : InputFault → TryFault
input_fault input.Read = Read
input_fault input.Memory = Memory
input_fault input.TurnLimit = TurnLimit
