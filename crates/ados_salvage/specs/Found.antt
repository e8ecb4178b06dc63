-- Headers to which the root does not lead: which files keep their blocks against them, and which of them an accepted image still has.
-- And which files are saved whole.
use Rattle.std.specs.Prelude.{◌≡◌, ℕ, ◌<◌, ◌⊎◌, Bool, true, List, All, AllPairs, Contains}
use Rattle.adf_block.specs.Whole.{HasFreeBit}
use Rattle.ados_census.specs.Fillers.{HoldsFiller}
use Rattle.ados_model.specs.declared.role.Role.{Role}
use Rattle.ados_model.specs.Faults.{InImage, IsEntry, Reached}
use Rattle.ados_model.specs.File.{data_blocks}
use Rattle.ados_salvage.specs.Doubtful.{LooksLikeHeader}
use Rattle.ados_salvage.specs.Sound.{IsSoundHeader, IsWhole}

-- exactly the entries to which the root leads, in order
pub record AreEntries (image blocks : List ℕ) : Type 0 where
  pub in_order : AllPairs (λ a b. a < b) blocks
  pub each : All (IsEntry image) blocks
  pub all : (block : ℕ) → IsEntry image block → Contains blocks block

-- headers that are left out: those that are left out anyway, and each sound header that the root does not lead to as an entry
pub record AreUnreached (out image unreached : List ℕ) : Type 0 where
  pub each : (block : ℕ) → IsSoundHeader image block → IsEntry image block ⊎ Contains unreached block
  pub also : (block : ℕ) → Contains out block → Contains unreached block
  pub only : (block : ℕ) → Contains unreached block → Contains out block ⊎ ¬ IsEntry image block

-- a file that keeps its blocks: it is whole where the headers are left out too to which the root does not lead, so the root leads to it
pub record KeepsBlocks (out : List ℕ) (holes : List Bool) (image : List ℕ) (file : ℕ) : Type 0 where
  pub unreached : List ℕ
  pub are_unreached : AreUnreached out image unreached
  pub whole : IsWhole unreached holes image file

-- a file that has all its blocks: no other sound file claims one of them, or it keeps them
abbrev pub HasItsBlocks : List ℕ → List Bool → List ℕ → ℕ → Type 0
HasItsBlocks out holes image file = IsWhole out holes image file ⊎ KeepsBlocks out holes image file

-- no data block of the file holds a known filler from end to end
abbrev pub HasNoFiller : List ℕ → ℕ → Type 0
HasNoFiller image file = All (λ block. ¬ HoldsFiller image block) (data_blocks image file)

-- a file that is saved whole: it has all its blocks, and if fillers count, none of its data blocks holds one
pub record IsSavedWhole (out : List ℕ) (holes : List Bool) (fillers : Bool) (image : List ℕ) (file : ℕ) : Type 0 where
  pub has : HasItsBlocks out holes image file
  pub no_filler : fillers ≡ true → HasNoFiller image file

-- the block is marked used, and nothing names it
pub record IsLostBlock (image : List ℕ) (block : ℕ) : Type 0 where
  pub inside : InImage image block
  pub used : ¬ HasFreeBit image block
  pub unnamed : (role : Role) → ¬ Reached image block role

-- a lost block that is a sound header
abbrev pub IsLostHeader : List ℕ → ℕ → Type 0
IsLostHeader image block = IsLostBlock image block × IsSoundHeader image block

-- a block that looks like a header, and is neither an entry nor a sound header among the lost blocks
pub record IsHidden (image : List ℕ) (block : ℕ) : Type 0 where
  pub looks : LooksLikeHeader image block
  pub no_entry : ¬ IsEntry image block
  pub not_lost : ¬ IsLostHeader image block

-- these are hidden, and every other block that looks like a header is an entry or a sound header among the lost blocks
pub record AreHidden (image hidden : List ℕ) : Type 0 where
  pub each : (block : ℕ) → LooksLikeHeader image block → (IsEntry image block ⊎ IsLostHeader image block) ⊎ Contains hidden block
  pub only : All (IsHidden image) hidden
