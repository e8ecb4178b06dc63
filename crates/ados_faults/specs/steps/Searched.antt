-- What a search for all faults notes.
use Rattle.std.specs.Prelude.{ℕ, List, Bool}
use Rattle.ados_model.specs.declared.fault.FaultKind.{FaultKind}
use Rattle.ados_model.specs.Faults.{Shows}
use Rattle.ados_faults.specs.steps.Noted.{AreNoted, IsNoted, cell_of}

-- all faults that the image shows are noted, and no others
pub record IsSearched (image : List ℕ) (cells : List Bool) : Type 0 where
  pub noted : AreNoted image cells
  pub each : (kind : FaultKind) (block : ℕ) → Shows image kind block → IsNoted cells (cell_of kind block)
