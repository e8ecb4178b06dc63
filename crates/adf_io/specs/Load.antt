-- What a failed load says of the input.
use Rattle.std.specs.Prelude.{◌≡◌, ℕ, List, length, take, Option, ⊤}
use Rattle.std.specs.Io.KnownBytes.{Consumes, IsAtEnd}
use Rattle.adf_block.specs.Size.{IsSizeFault}
use Rattle.adf_block.specs.declared.volume_size.SizeRefused.{SizeRefused}
use Rattle.adf_io.specs.Input.{GivesNoEnd}
use Rattle.adf_io.specs.declared.input.InputFault.{InputFault}
use Rattle.adf_io.specs.declared.input.InputFault.TheVariants as input
use Rattle.adf_io.specs.declared.load.LoadFault.{LoadFault}
use Rattle.adf_io.specs.declared.load.LoadFault.TheVariants.{Read, Memory, TurnLimit, Size}

-- these are all bytes of the reader up to its end
abbrev pub ReadsAll : Option (List ℕ) → Option (List ℕ) → List ℕ → Type 0
ReadsAll old new bytes = Consumes old new bytes × IsAtEnd new

-- a fault of the size is that of the number of all bytes up to the end of the reader. It comes with the first of them,
-- at most as many as the largest image has
pub record IsRefusedSize (old new : Option (List ℕ)) (refused : SizeRefused) : Type 0 where
  pub seen : List ℕ
  pub consumed : Consumes old new seen
  pub end : IsAtEnd new
  pub front : refused.bytes.items ≡ take 52020224 seen
  pub faulty : IsSizeFault (length seen) refused.fault

-- the limit of reads is reached only if the reader has no end within it
abbrev pub IsRefusal : Option (List ℕ) → Option (List ℕ) → LoadFault → Type 0
IsRefusal old new Read = ⊤
IsRefusal old new Memory = ⊤
IsRefusal old new TurnLimit = GivesNoEnd old new
IsRefusal old new (Size refused) = IsRefusedSize old new refused

-- a failed input, as a failed load
abbrev pub load_fault : InputFault → LoadFault
load_fault input.Read = Read
load_fault input.Memory = Memory
load_fault input.TurnLimit = TurnLimit
