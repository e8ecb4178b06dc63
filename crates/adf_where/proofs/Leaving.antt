-- What a failed output leaves.
use Rattle.adf_where.proofs.Common.{◌≡◌, ℕ, inr, List, Option, sym, subst}
use Rattle.adf_io.specs.Prefix.{WritesFrontOf}
use Rattle.adf_io.specs.declared.printing.PrintFault.{PrintFault}
use Rattle.adf_io.specs.declared.printing.PrintFault.TheVariants.{Memory, Write}
use Rattle.adf_where.specs.Where.{LeavesWhere}
use Rattle.adf_where.specs.declared.where_fault.WhereFault.{WhereFault}
use Rattle.adf_where.specs.steps.Parts.{where_fault}

-- a prefix of the text
pub leaves_front : (IsText : List ℕ → Type 0) (old new : Option (List ℕ)) (fault : PrintFault) (given : WhereFault) → given ≡ where_fault fault → WritesFrontOf old new IsText → LeavesWhere IsText old new given
leaves_front IsText old new Write given is front = subst (LeavesWhere IsText old new) (sym is) (inr front)
leaves_front IsText old new Memory given is front = subst (LeavesWhere IsText old new) (sym is) (inr front)
