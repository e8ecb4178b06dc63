-- The pointer blocks of a file, one after the other, while blocks are freed.
use Rattle.std.specs.Prelude.{◌≡◌, ◌≢◌, ℕ, ◌%◌, ◌<◌, ◌⊎◌, List, true}
use Rattle.adf_block.specs.declared.layout.TheConstants.{TABLE_LONGS, NEXT_EXTENSION}
use Rattle.adf_block.specs.Image.{long}
use Rattle.ados_map.specs.Pages.{LawfulPages}
use Rattle.ados_map.specs.Changes.{BitChanged}

-- holder' is the pointer block of pointer i, and next' follows it; holder' is the current pointer block, or the next
-- one, which was then freed
pub record IsEntered (old : List ℕ) (holder next i holder' next' : ℕ) (new : List ℕ) : Type 0 where
  pub kept : (i ≡ 0) ⊎ (i % TABLE_LONGS ≢ 0) → (new ≡ old) × (holder' ≡ holder) × (next' ≡ next)
  pub entered : 0 < i → i % TABLE_LONGS ≡ 0 → (holder' ≡ next) × (next' ≡ long old next NEXT_EXTENSION) × BitChanged old next true new × LawfulPages new
