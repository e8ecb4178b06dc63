-- Changes of a file's bytes.
use Rattle.std.specs.Prelude.{◌≡◌, ℕ, ◌+◌, max, IsTrue, List, length}
use Rattle.adf_block.specs.Frame.{SameBut}
use Rattle.ados_name.specs.declared.stamp.Date3.{Date3}
use Rattle.ados_model.specs.Tree.{Tree, needs_more, size_of}
use Rattle.ados_model.specs.Stands.{Stands}
use Rattle.ados_model.specs.Change.{written}
use Rattle.ados_model.specs.Edits.{grown}
use Rattle.ados_model.specs.Faults.{root_of}
use Rattle.ados_change.specs.Stamps.{AtStamps, touched}

-- for this size the file needs more new blocks than are free
abbrev pub NeedsMore : Tree → ℕ → ℕ → Type 0
NeedsMore t file size = IsTrue (needs_more t file size)

-- the size of a file after bytes are written into it from a position
abbrev pub written_size : Tree → ℕ → ℕ → List ℕ → ℕ
written_size t file pos bytes = max (size_of t file) (pos + length bytes)

-- enough blocks were free to write the bytes into the file, and the new image represents the tree with them
abbrev pub Writes : Date3 → ℕ → ℕ → List ℕ → List ℕ → List ℕ → Type 0
Writes moment file pos bytes old new =
    (t : Tree) → Stands old t → (¬ NeedsMore t file (written_size t file pos bytes)) × Stands new (written moment file pos bytes t)

-- too few blocks are free to write them
abbrev pub CannotWrite : ℕ → ℕ → List ℕ → List ℕ → Type 0
CannotWrite file pos bytes image = (t : Tree) → Stands image t → NeedsMore t file (written_size t file pos bytes)

-- the image is unchanged, because too few blocks are free to write them
abbrev pub StaysUnwritten : ℕ → ℕ → List ℕ → List ℕ → List ℕ → Type 0
StaysUnwritten file pos bytes old new = (new ≡ old) × CannotWrite file pos bytes old

-- enough blocks were free for the file to grow to this size with zeros, and the new image represents the tree with
-- them
abbrev pub Grows : Date3 → ℕ → ℕ → List ℕ → List ℕ → Type 0
Grows moment file size old new = (t : Tree) → Stands old t → (¬ NeedsMore t file size) × Stands new (grown moment file size t)

-- too few blocks are free for this size
abbrev pub CannotGrow : ℕ → ℕ → List ℕ → Type 0
CannotGrow file size image = (t : Tree) → Stands image t → NeedsMore t file size

-- the image is unchanged, because too few blocks are free for this size
abbrev pub StaysUngrown : ℕ → ℕ → List ℕ → List ℕ → Type 0
StaysUngrown file size old new = (new ≡ old) × CannotGrow file size old

-- the time stamp was written into the file and the root, and nothing else changed
pub record IsStamped (moment : Date3) (old : List ℕ) (file : ℕ) (new : List ℕ) : Type 0 where
  pub stands : (t : Tree) → Stands old t → Stands new (touched moment file t)
  pub rest : SameBut (AtStamps (root_of old) file) old new
