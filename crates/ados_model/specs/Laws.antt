-- Laws about the definitions.
use Rattle.std.specs.Prelude.{◌≡◌, ℕ, List, codes}
use Rattle.adf_block.specs.declared.layout.Format.{Format}
use Rattle.adf_block.specs.declared.layout.Format.TheVariants.{Ffs}
use Rattle.ados_name.specs.declared.stamp.Date3.{Date3}
use Rattle.adf_block.specs.Whole.{free_bit_count}
use Rattle.ados_name.specs.Name.{IsName}
use Rattle.ados_model.specs.declared.fault.FaultKind.{FaultKind}
use Rattle.ados_model.specs.Tree.{Tree, free}
use Rattle.ados_model.specs.Stands.{Stands}
use Rattle.ados_model.specs.Faults.{Shows}
use Rattle.ados_model.specs.Blank.{blank_tree, IsBlank}

-- an image represents at most one tree
abbrev pub OneTree : Type 0
OneTree = (image : List ℕ) (t u : Tree) → Stands image t → Stands image u → t ≡ u

-- an image with a fault represents no tree
abbrev pub FaultsHaveNoTree : Type 0
FaultsHaveNoTree = (image : List ℕ) (t : Tree) (kind : FaultKind) (block : ℕ) → Shows image kind block → ¬ Stands image t

-- a blank image represents the tree of an empty root
abbrev pub BlankStands : Type 0
BlankStands =
    (format : Format) (n : ℕ) (name : List ℕ) (moment : Date3) (image : List ℕ) → IsName name → IsBlank format n name moment image
    → Stands image (blank_tree format n name moment)

-- a blank FFS image of 1,760 blocks exists; its name is `Work`, and its dates are 0
abbrev pub HasBlankImage : Type 0
HasBlankImage = (image : List ℕ) × IsBlank Ffs 1760 (codes "Work") (record { days = 0; minutes = 0; ticks = 0 }) image

-- the number of blocks marked free in an image is the number of blocks that its tree does not use
abbrev pub FreeBitsCount : Type 0
FreeBitsCount = (image : List ℕ) (t : Tree) → Stands image t → free_bit_count image ≡ free t
