-- The headers of a damaged image while they are found.
use Rattle.std.specs.Prelude.{◌≡◌, ◌≢◌, ℕ, ◌<◌, ◌↔◌, true, Bool, IsTrue, List, length, All, AllPairs, Contains, ◌++◌}
use Rattle.adf_block.specs.Image.{block_count, long}
use Rattle.adf_block.specs.Fields.{parent_key}
use Rattle.ados_salvage.specs.declared.known.headers.Found.{Found}
use Rattle.ados_salvage.specs.Doubtful.{IsHeader, IsPlaceIn, MayBeHeader}
use Rattle.ados_salvage.specs.Sound.{IsSoundHeader}
use Rattle.ados_salvage.specs.Marks.{mark_at}

-- for each block, whether it is a sound header
pub record AreSound (image : List ℕ) (sound : List Bool) : Type 0 where
  pub size : length sound ≡ block_count image
  pub decided : (block : ℕ) → block < block_count image → IsTrue (mark_at sound block) ↔ IsSoundHeader image block

-- the block is marked
abbrev pub IsFound : List Bool → ℕ → Type 0
IsFound marks block = mark_at marks block ≡ true

-- there is a mark for each block, each marked block is a header, and the list has each of them once
pub record AreFound (out image : List ℕ) (found : Found) : Type 0 where
  pub size : length found.marks.items ≡ block_count image
  pub right : (block : ℕ) → IsFound found.marks.items block → IsHeader out image block
  pub listed : (block : ℕ) → IsFound found.marks.items block → Contains found.blocks.items block
  pub marked : All (IsFound found.marks.items) found.blocks.items
  pub once : AllPairs (λ a b. a ≢ b) found.blocks.items

-- more headers were found: those found before are still marked, and in their places of the list
pub record FindsMore (out image : List ℕ) (old new : Found) : Type 0 where
  pub found : AreFound out image new
  pub kept : (block : ℕ) → IsFound old.marks.items block → IsFound new.marks.items block
  pub more : List ℕ
  pub grown : new.blocks.items ≡ old.blocks.items ++ more

-- a block that the long names as an entry of its parent is marked, if it looks like a header and is not left out
abbrev pub IsSought : List ℕ → List ℕ → List Bool → ℕ → ℕ → Type 0
IsSought out image marks block at =
    (named : ℕ) → IsPlaceIn image (parent_key image named) block at → long image block at ≡ named → MayBeHeader out image named → IsFound marks named

-- each header that this block names as an entry is marked
abbrev pub AreSought : List ℕ → List ℕ → List Bool → ℕ → Type 0
AreSought out image marks block = (at : ℕ) → IsSought out image marks block at
