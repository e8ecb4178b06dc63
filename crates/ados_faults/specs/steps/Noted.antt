-- Cells for the faults found in an image.
use Rattle.std.specs.Prelude.{◌≡◌, ℕ, ◌+◌, ◌*◌, ◌<◌, ◌≤◌, ◌⊎◌, List, Bool, true, false, length, slice_index_or, All, Contains}
use Rattle.adf_block.specs.Image.{block_count}
use Rattle.ados_model.specs.declared.fault.FaultKind.{FaultKind}
use Rattle.ados_model.specs.Faults.{Shows}
use Rattle.ados_model.specs.declared.fault.VolumeFault.{VolumeFault}
use Rattle.ados_faults.specs.Listed.{ListsFaults, ShowsMoreThan, StandsBefore, fault_of, rank}

-- the cell for a kind of fault and a block
abbrev pub cell_of : FaultKind → ℕ → ℕ
cell_of kind block = 17 * block + rank kind

-- the cell says that the fault was found
abbrev pub IsNoted : List Bool → ℕ → Type 0
IsNoted cells cell = slice_index_or cells cell false ≡ true

-- what was noted stays noted
pub record AreStillNoted (cells later : List Bool) : Type 0 where
  pub stay : (cell : ℕ) → IsNoted cells cell → IsNoted later cell

-- some fault was found
abbrev pub HasNote : List Bool → Type 0
HasNote cells = (cell : ℕ) × IsNoted cells cell

-- each kind and block has a cell, and the image shows each fault that was noted
pub record AreNoted (image : List ℕ) (cells : List Bool) : Type 0 where
  pub size : length cells ≡ 17 * block_count image
  pub shown : (kind : FaultKind) (block : ℕ) → IsNoted cells (cell_of kind block) → Shows image kind block

-- the cell of a fault
abbrev pub cell_at : VolumeFault → ℕ
cell_at fault = cell_of fault.kind fault.block

-- each noted fault is in the list
abbrev pub ListsNoted : List Bool → List VolumeFault → Type 0
ListsNoted cells faults = (kind : FaultKind) (block : ℕ) → IsNoted cells (cell_of kind block) → Contains faults (fault_of kind block)

-- each noted fault is in the list, or stands after all of the list
abbrev pub ListsFirst : List Bool → List VolumeFault → Type 0
ListsFirst cells faults =
    (kind : FaultKind) (block : ℕ) → IsNoted cells (cell_of kind block) → Contains faults (fault_of kind block) ⊎ All (λ fault. StandsBefore fault (fault_of kind block)) faults

-- the list has as many of the noted faults as it may have, the first ones, and there are more
pub record IsFull (image : List ℕ) (cells : List Bool) (most : ℕ) (faults : List VolumeFault) : Type 0 where
  pub lists : ListsFaults image most faults
  pub full : length faults ≡ most
  pub first : ListsFirst cells faults
  pub room : most < length cells
  pub more : ShowsMoreThan image most

-- the list has the noted faults of the cells below a bound
pub record AreListed (image : List ℕ) (cells : List Bool) (most below : ℕ) (faults : List VolumeFault) : Type 0 where
  pub lists : ListsFaults image most faults
  pub count : length faults ≤ below
  pub cells_below : All (λ fault. cell_at fault < below) faults
  pub some : (cell : ℕ) → cell < below → IsNoted cells cell → 0 < length faults
  pub each : (kind : FaultKind) (block : ℕ) → cell_of kind block < below → IsNoted cells (cell_of kind block) → Contains faults (fault_of kind block)
