-- What may be lost, by the bits of the two images.
use Rattle.std.specs.Prelude.{◌≢◌, ◌↔◌, ℕ, ◌<◌, ◌≤◌, List}
use Rattle.adf_block.specs.Image.{block_sum}
use Rattle.adf_block.specs.Whole.{HasFreeBit}
use Rattle.ados_salvage.specs.Sound.{IsSoundHeader}
use Rattle.ados_map.specs.Pages.{page_block, pages_of}
use Rattle.ados_model.specs.Faults.{InImage}
use Rattle.ados_validate.specs.declared.caution.Look.{Look}
use Rattle.ados_validate.specs.declared.caution.TheConstants.{MOST_CHANGED_BITS}
use Rattle.ados_validate.specs.Cautions.{HasLook, changed_bits}
use Rattle.ados_validate.specs.Validated.{IsValidated}

-- the bitmap block looks like no other block, and has a right checksum or changes in few bits
pub record IsSafePage (old new : List ℕ) (page : ℕ) : Type 0 where
  pub no_look : (look : Look) → ¬ HasLook old page look
  pub few_bits : block_sum old page ≢ 0 → changed_bits old new page ≤ MOST_CHANGED_BITS

abbrev pub AreSafePages : List ℕ → List ℕ → Type 0
AreSafePages old new = (p : ℕ) → p < pages_of old → IsSafePage old new (page_block old p)

-- no block that is marked used in the old image and free in the new one is a sound header
abbrev pub HasNoLostHeader : List ℕ → List ℕ → Type 0
HasNoLostHeader old new = (block : ℕ) → InImage old block → HasFreeBit new block → ¬ HasFreeBit old block → ¬ IsSoundHeader old block

-- a block that the new image marks free is a sound header in both images or in none
abbrev pub FreedHeadersStay : Type 0
FreedHeadersStay = (old new : List ℕ) → IsValidated old new → (block : ℕ) → InImage old block → HasFreeBit new block → (IsSoundHeader new block ↔ IsSoundHeader old block)
