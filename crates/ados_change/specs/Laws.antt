-- Laws: the changes of entries keep a tree proper; and an image, a changed tree and `KeepsRest` determine the new image.
use Rattle.std.specs.Prelude.{◌≡◌, ◌<◌, ℕ, List}
use Rattle.ados_name.specs.declared.stamp.Date3.{Date3}
use Rattle.adf_block.specs.Whole.{IsImage}
use Rattle.ados_model.specs.Tree.{Content, Tree, Proper, size_of}
use Rattle.ados_model.specs.Stands.{Stands}
use Rattle.ados_model.specs.Change.{made, removed, renamed}
use Rattle.ados_model.specs.Parts.{IsUnused}
use Rattle.ados_change.specs.NewBlocks.{KeepsRest}
use Rattle.ados_change.specs.Conditions.{CanMake, CanRemove, CanRename, IsEmpty}

-- a proper tree with one more entry, which is empty, is proper
abbrev pub MadeIsProper : Type 0
MadeIsProper =
    (t : Tree) (moment : Date3) (dir key : ℕ) (name : List ℕ) (content : Content) → Proper t → CanMake t dir name → IsUnused t key
    → IsEmpty content → Proper (made moment dir key name content t)

-- a proper tree without one of its entries is proper
abbrev pub RemovedIsProper : Type 0
RemovedIsProper = (t : Tree) (moment : Date3) (key : ℕ) → Proper t → CanRemove t key → Proper (removed moment key t)

-- a proper tree with one entry moved is proper
abbrev pub RenamedIsProper : Type 0
RenamedIsProper = (t : Tree) (moment : Date3) (key dir : ℕ) (name : List ℕ) → Proper t → CanRename t key dir name → Proper (renamed moment key dir name t)

-- at most one file is longer in the second tree
abbrev pub OneGrows : Tree → Tree → Type 0
OneGrows t u = (f g : ℕ) → size_of t f < size_of u f → size_of t g < size_of u g → f ≡ g

-- two images that come from one image of bytes by changes which keep the rest, and that represent the same tree, in
-- which at most one file is longer, are the same list of bytes
abbrev pub SameRestSameBytes : Type 0
SameRestSameBytes =
    (t u : Tree) (old new other : List ℕ) → Stands old t → OneGrows t u → IsImage old → Stands new u → Stands other u
    → KeepsRest old new → KeepsRest old other → other ≡ new
