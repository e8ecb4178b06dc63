-- The parts of a node that may not be there, the blocks of a key's node, and a key that no node has.
use Rattle.std.specs.Prelude.{◌≡◌, ℕ, List, [], length, Option, None}
use Rattle.std.specs.Option.{option_map_or}
use Rattle.adf_block.specs.Image.{IsInside}
use Rattle.ados_model.specs.Tree.{Content, Node, Tree, bytes_in, content_at, cost_in}

-- the name of a node, empty if there is no node
abbrev pub name_in : Option Node → List ℕ
name_in node = option_map_or (λ a. a.name) node []

-- the protection bits of a node
abbrev pub protection_in : Option Node → ℕ
protection_in node = option_map_or (λ a. a.protection) node 0

-- the number of bytes of a file, 0 for a directory
abbrev pub size_in : Option Content → ℕ
size_in content = length (bytes_in content)

-- the number of blocks of a key's node
abbrev pub cost_of : Tree → ℕ → ℕ
cost_of t key = cost_in t.format (content_at t key)

-- a block of the volume that is no node's key
pub record IsUnused (t : Tree) (key : ℕ) : Type 0 where
  pub inside : IsInside t.blocks key
  pub no_node : t.nodes key ≡ None
