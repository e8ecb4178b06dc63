-- Entries that would be deleted ones by a bitmap that cannot be trusted.
use Rattle.std.specs.Prelude.{◌≡◌, ℕ, ◌+◌, ◌-◌, ◌/◌, ◌&&◌, nat_le, nat_lt, Bool, true, false, IsTrue, MatchBool, List}
use Rattle.std.specs.List.{AllZip}
use Rattle.adf_block.specs.declared.layout.TheConstants.{BOOT_BLOCKS, FIRST_PAGE, PAGE_BITS}
use Rattle.adf_block.specs.Image.{block_count, has_free_bit, long, root_key}
use Rattle.ados_salvage.specs.Sound.{IsSoundHeader}
use Rattle.ados_salvage.specs.declared.salvaged.Salvaged.{Salvaged}
use Rattle.ados_salvage.specs.Salvaged.{Saved}

-- the bitmap block that the root names for the block
abbrev pub page_for : List ℕ → ℕ → ℕ
page_for image block = long image (root_key (block_count image)) (FIRST_PAGE + (block - BOOT_BLOCKS) / PAGE_BITS)

-- that is a block of the volume, and marks the block free. The bitmap may be one that cannot be trusted
abbrev pub is_marked_free : List ℕ → ℕ → Bool
is_marked_free image block = nat_le BOOT_BLOCKS (page_for image block) && nat_lt (page_for image block) (block_count image) && has_free_bit image block

-- a sound header that the bitmap marks free
pub record IsFreeHeader (image : List ℕ) (block : ℕ) : Type 0 where
  pub sound : IsSoundHeader image block
  pub free : IsTrue (is_marked_free image block)

-- an entry that would be a deleted one if the bitmap could be trusted: no directory leads to it, its header is sound, and the bitmap
-- marks it free
pub record WouldBeDeleted (saved : Saved) (entry : Salvaged) : Type 0 where
  pub untrusted : saved.trusted ≡ false
  pub found : entry.found ≡ true
  pub header : IsFreeHeader saved.image entry.header

-- for each entry, whether it would be
abbrev pub AreMarked : Saved → List Bool → Type 0
AreMarked saved = AllZip (λ entry mark. MatchBool mark (WouldBeDeleted saved entry) (¬ WouldBeDeleted saved entry)) saved.entries
