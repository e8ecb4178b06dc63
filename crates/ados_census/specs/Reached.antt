-- The blocks that are reached.
use Rattle.std.specs.Prelude.{ℕ, ◌⊎◌, List}
use Rattle.ados_model.specs.declared.role.Role.{Role}
use Rattle.ados_model.specs.declared.role.Role.TheVariants.{Data, Page}
use Rattle.ados_model.specs.Faults.{Reached}

-- the block is reached, in some role
abbrev pub IsReached : List ℕ → ℕ → Type 0
IsReached image block = (role : Role) × Reached image block role

-- the block is reached as a data block of a file, or as a bitmap block
abbrev pub IsLeaf : List ℕ → ℕ → Type 0
IsLeaf image block = ((file : ℕ) × Reached image block (Data file)) ⊎ Reached image block Page
