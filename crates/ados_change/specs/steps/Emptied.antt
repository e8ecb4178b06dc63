-- An entry just before its removal.
use Rattle.std.specs.Prelude.{◌≡◌, ◌≢◌, ℕ, ◌/◌, ◌<◌, List, []}
use Rattle.adf_block.specs.declared.layout.TheConstants.{BLOCK_BYTES}
use Rattle.adf_block.specs.Image.{byte_at}
use Rattle.adf_block.specs.Whole.{HasFreeBit}
use Rattle.ados_name.specs.declared.stamp.Date3.{Date3}
use Rattle.ados_model.specs.Change.{removed}
use Rattle.ados_data.specs.Unnamed.{IsBeside}
use Rattle.ados_model.specs.Faults.{InImage, root_of}
use Rattle.ados_change.specs.NewBlocks.{KeepsBlock, TakesNone}
use Rattle.ados_model.specs.Stands.{Stands}
use Rattle.ados_model.specs.Tree.{Tree, size_of}
use Rattle.ados_change.specs.Conditions.{CanRemove}
use Rattle.ados_change.specs.Stamps.{IsDiskStamp}

-- in tree u the entry has no contents and all other nodes are those of t; without the entry the two trees are the same
pub record IsEmptied (moment : Date3) (key : ℕ) (t u : Tree) : Type 0 where
  pub can : CanRemove u key
  pub no_bytes : size_of u key ≡ 0
  pub others : (k : ℕ) → k ≢ key → u.nodes k ≡ t.nodes k
  pub same : removed moment key u ≡ removed moment key t

-- for a tree of the old image, the new one represents that tree with the entry emptied
abbrev pub Empties : Date3 → ℕ → List ℕ → List ℕ → Type 0
Empties moment key old new = (t : Tree) → Stands old t → (u : Tree) × Stands new u × IsEmptied moment key t u

-- only bitmap blocks, the entry's own block and the disk date change
abbrev pub WritesOnlyEntry : ℕ → List ℕ → List ℕ → Type 0
WritesOnlyEntry key old new =
    (b i : ℕ) → i < BLOCK_BYTES → IsBeside old key [] [] b → ¬ ((b ≡ root_of old) × IsDiskStamp (i / 4)) → byte_at new b i ≡ byte_at old b i

-- no block is allocated, and this one is freed and no other; other blocks free afterwards are unchanged
pub record GivesBack (key : ℕ) (old new : List ℕ) : Type 0 where
  pub none : TakesNone old new
  pub free : HasFreeBit new key
  pub given : (block : ℕ) → InImage old block → block ≢ key → HasFreeBit new block → HasFreeBit old block
  pub freed : (block : ℕ) → InImage old block → block ≢ key → HasFreeBit new block → KeepsBlock block old new
