-- The faults that a block shows in a role, without a look at further blocks.
use Rattle.std.specs.Prelude.{◌≡◌, ℕ, ◌<◌, List, Bool, Some, slice_get}
use Rattle.ados_check.specs.Rules.{HasBadField, HasBadSumAs, HasBadTypeAs, kind_of}
use Rattle.ados_check.specs.declared.rules.FieldRule.{FieldRule}
use Rattle.ados_model.specs.declared.fault.FaultKind.TheVariants.{BadSum, BadType, MarkedFree}
use Rattle.ados_model.specs.declared.role.Role.{Role}
use Rattle.ados_faults.specs.declared.walk.Step.{Step}
use Rattle.ados_faults.specs.steps.Noted.{IsNoted, cell_of}
use Rattle.ados_faults.specs.steps.Walked.{IsMarkedFree}

-- the rule, if the block breaks it in the role, is noted
abbrev pub IsFieldNoted : List ℕ → List Bool → ℕ → Role → FieldRule → Type 0
IsFieldNoted image cells block role rule = HasBadField image block role rule → IsNoted cells (cell_of (kind_of rule) block)

-- each rule that the block breaks in the role is noted
pub record AreWrongsNoted (image : List ℕ) (cells : List Bool) (block : ℕ) (role : Role) : Type 0 where
  pub sum : HasBadSumAs image block role → IsNoted cells (cell_of BadSum block)
  pub types : HasBadTypeAs image block role → IsNoted cells (cell_of BadType block)
  pub fields : (rule : FieldRule) → IsFieldNoted image cells block role rule

-- each rule that the step breaks is noted, and that the block is marked free
pub record IsLookedAt (image : List ℕ) (cells : List Bool) (step : Step) : Type 0 where
  pub wrongs : AreWrongsNoted image cells step.block step.role
  pub free : IsMarkedFree image step.block → IsNoted cells (cell_of MarkedFree step.block)

-- the first steps were looked at, as many as a number says
pub record AreLookedAt (image : List ℕ) (cells : List Bool) (steps : List Step) (n : ℕ) : Type 0 where
  pub looked : (k : ℕ) (step : Step) → k < n → slice_get steps k ≡ Some step → IsLookedAt image cells step
