-- Images with blocks that nobody read, or that may hold a filler in place of what nobody read.
use Rattle.std.specs.Prelude.{◌≡◌, ◌≢◌, ℕ, ◌<◌, Bool, true, List}
use Rattle.adf_block.specs.Frame.{SameBut}
use Rattle.adf_block.specs.Image.{IsInside, block_count, byte_at}
use Rattle.adf_block.specs.declared.layout.TheConstants.{BLOCK_BYTES}
use Rattle.ados_census.specs.Fillers.{HoldsFiller}
use Rattle.ados_census.specs.Reached.{IsReached}
use Rattle.ados_model.specs.declared.role.Role.TheVariants.{Data}
use Rattle.ados_model.specs.Faults.{Reached}
use Rattle.ados_salvage.specs.Marks.{IsHole}
use Rattle.ados_salvage.specs.Salvaged.{Saved, SavesBeside}

-- nothing is in the block: its first long is 1, and all others are 0. So it has no type of the disk and a wrong checksum
pub record IsEmpty (image : List ℕ) (block : ℕ) : Type 0 where
  pub one : byte_at image block 3 ≡ 1
  pub zeros : (at : ℕ) → at < BLOCK_BYTES → at ≢ 3 → byte_at image block at ≡ 0

-- the image with nothing in its holes
pub record IsEmptied (holes : List Bool) (image read : List ℕ) : Type 0 where
  pub rest : SameBut (λ block at. IsHole holes block) image read
  pub empty : (block : ℕ) → block < block_count image → IsHole holes block → IsEmpty read block

-- the root leads to no hole; all blocks to which it leads are inside the volume
abbrev pub LeadsToNoHole : List Bool → List ℕ → Type 0
LeadsToNoHole holes image = (block : ℕ) → IsInside (block_count image) block → IsReached image block → ¬ IsHole holes block

-- the root leads to no block that is a data block of a file and holds a known filler
abbrev pub LeadsToNoFiller : List ℕ → Type 0
LeadsToNoFiller image = (block file : ℕ) → IsInside (block_count image) block → Reached image block (Data file) → ¬ HoldsFiller image block

-- the root leads to no hole, and if a list of unread blocks was given, to no filler in a file
pub record LeadsToNone (holes : List Bool) (listed : Bool) (image : List ℕ) : Type 0 where
  pub no_hole : LeadsToNoHole holes image
  pub no_filler : listed ≡ true → LeadsToNoFiller image

-- everything that can be told of an image, whatever stands in its holes; with a list of unread blocks or without one. It is accepted only
-- where the root leads to none of them
pub record SalvagesBeside (holes : List Bool) (listed : Bool) (image : List ℕ) (saved : Saved) : Type 0 where
  pub read : List ℕ
  pub emptied : IsEmptied holes image read
  pub saves : SavesBeside holes listed read saved
  pub unreached : saved.accepted ≡ true → LeadsToNone holes listed read
