-- The lost blocks of an image that stands for a tree, by its bytes and by the tree.
use Rattle.std.specs.Prelude.{ℕ, ◌↔◌, List}
use Rattle.ados_model.specs.Stands.{Stands}
use Rattle.ados_model.specs.Tree.{Tree}
use Rattle.ados_salvage.specs.Found.{IsLostBlock}
use Rattle.ados_volume.specs.Owners.{Owns}
use Rattle.ados_volume.specs.declared.owner.Owner.TheVariants.{Lost}

-- a block is marked used and not reached exactly if nothing in the tree owns it, and it is not free
abbrev pub LostBlocksByOwner : Type 0
LostBlocksByOwner = (image : List ℕ) (t : Tree) (block : ℕ) → Stands image t → IsLostBlock image block ↔ Owns image t block Lost
