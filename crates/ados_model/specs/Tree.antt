-- A volume as a tree, without blocks, and the number of blocks that it needs.
use Rattle.std.specs.Prelude.{ℕ, ◌+◌, ◌-◌, ◌/◌, ◌==◌, if◌then◌else◌, List, [], ◌∷◌, Option, Some, None, ◌≡◌, ◌≢◌, ◌≤◌}
use Rattle.std.specs.Prelude.{◌↔◌, length, Contains, AllPairs, is_some, option_map, option_and_then, cond, Bool}
use Rattle.std.specs.Prelude.{nat_lt}
use Rattle.std.specs.Option.{option_map_or}
use Rattle.adf_block.specs.declared.layout.TheConstants.{FEWEST_BLOCKS, MOST_BLOCKS, BOOT_BLOCKS, TABLE_LONGS}
use Rattle.adf_block.specs.declared.layout.TheConstants.{OFS_DATA_BYTE, OFS_ROOM, FFS_ROOM}
pub use Rattle.adf_block.specs.declared.layout.Format.{Format, TheVariants.Ofs, TheVariants.Ffs}
use Rattle.adf_block.specs.Image.{root_key, page_count, IsInside, total}
pub use Rattle.ados_name.specs.declared.stamp.Date3.{Date3}
use Rattle.ados_name.specs.Name.{Same, slot, IsName, IsComment}

-- bytes of a file in one data block
abbrev pub data_size : Format → ℕ
data_size Ofs = OFS_ROOM
data_size Ffs = FFS_ROOM

-- bytes of a data block before its data
abbrev pub data_start : Format → ℕ
data_start Ofs = OFS_DATA_BYTE
data_start Ffs = 0

-- the number of data blocks of a file of this size
abbrev pub data_count : Format → ℕ → ℕ
data_count format size = (size + data_size format - 1) / data_size format

-- the number of extension blocks of a file with d data blocks; 72 pointers are in the header
abbrev pub extension_count : ℕ → ℕ
extension_count d = (d + (TABLE_LONGS - 1)) / TABLE_LONGS - 1

-- the number of data and extension blocks of a file of this size
abbrev pub block_cost : Format → ℕ → ℕ
block_cost format size = data_count format size + extension_count (data_count format size)

-- the keys after the first occurrence of a key, or none if the list does not have it
abbrev pub behind : ℕ → List ℕ → Option (List ℕ)
behind key [] = None
behind key (k ∷ ks) = if k == key then Some ks else behind key ks

-- the content of a node: a directory has the keys of its entries in order, a file has its bytes
pub data Content : Type 0 where
  Directory : List ℕ → Content
  File : List ℕ → Content

-- a directory or a file; only the root has no parent
pub record Node : Type 0 where
  pub name : List ℕ
  pub parent : Option ℕ
  pub protection : ℕ
  pub date : Date3
  pub comment : List ℕ
  pub content : Content

-- a volume: its nodes by key, and the bytes of its lost blocks by number; the date of the root is that of its node
pub record Tree : Type 0 where
  pub blocks : ℕ
  pub format : Format
  pub disk_date : Date3
  pub creation_date : Date3
  pub nodes : ℕ → Option Node
  pub lost : ℕ → Option (List ℕ)

-- the key of the root
abbrev pub root : Tree → ℕ
root t = root_key t.blocks

-- the content of a key's node
abbrev pub content_at : Tree → ℕ → Option Content
content_at t key = option_map (λ node. node.content) (t.nodes key)

-- the keys in a directory
abbrev pub entries_in : Option Content → List ℕ
entries_in (Some (Directory keys)) = keys
entries_in _ = []

-- the entries of a directory; a file has none
abbrev pub entries : Tree → ℕ → List ℕ
entries t key = entries_in (content_at t key)

-- the bytes of a file
abbrev pub bytes_in : Option Content → List ℕ
bytes_in (Some (File bytes)) = bytes
bytes_in _ = []

-- the bytes of a file; a directory has none
abbrev pub bytes_of : Tree → ℕ → List ℕ
bytes_of t key = bytes_in (content_at t key)

-- the size of a file; a directory has size 0
abbrev pub size_of : Tree → ℕ → ℕ
size_of t key = length (bytes_of t key)

-- the name of a node, empty if there is no node
abbrev pub name_of : Tree → ℕ → List ℕ
name_of t key = option_map_or (λ node. node.name) (t.nodes key) []

-- the directory of a node
abbrev pub parent_of : Tree → ℕ → Option ℕ
parent_of t key = option_and_then (λ node. node.parent) (t.nodes key)

-- the chain of parents leads from the key to the root
pub data LeadsToRoot (t : Tree) : ℕ → Type 0 where
  at_root : {key : ℕ} → key ≡ root t → LeadsToRoot t key
  by_parent : {key dir : ℕ} → parent_of t key ≡ Some dir → LeadsToRoot t dir → LeadsToRoot t key

-- the root is a directory with no parent, protection 0 and no comment
pub record IsRoot (node : Node) : Type 0 where
  pub no_parent : node.parent ≡ None
  pub no_protection : node.protection ≡ 0
  pub no_comment : node.comment ≡ []
  pub keys : List ℕ
  pub directory : node.content ≡ Directory keys

-- the nodes form one tree, and its lists are in order
pub record Proper (t : Tree) : Type 0 where
  pub size : (FEWEST_BLOCKS ≤ t.blocks) × (t.blocks ≤ MOST_BLOCKS)
  -- a key is the number of a block inside the volume
  pub inside : (key : ℕ) (node : Node) → t.nodes key ≡ Some node → IsInside t.blocks key
  pub root_node : (node : Node) × (t.nodes (root t) ≡ Some node) × IsRoot node
  -- a node is in its parent's list exactly once, and in no other list
  pub listed : (dir key : ℕ) → Contains (entries t dir) key ↔ (parent_of t key ≡ Some dir)
  pub once : (dir : ℕ) → AllPairs (λ j k. j ≢ k) (entries t dir)
  -- two entries of a directory with the same name are the same entry
  pub unlike : (dir j k : ℕ) → Contains (entries t dir) j → Contains (entries t dir) k
      → Same (name_of t j) (name_of t k) → j ≡ k
  pub rising : (dir : ℕ) → AllPairs (λ j k. slot (name_of t j) ≤ slot (name_of t k)) (entries t dir)
  pub rooted : (key : ℕ) (node : Node) → t.nodes key ≡ Some node → LeadsToRoot t key
  pub name : (key : ℕ) (node : Node) → t.nodes key ≡ Some node → IsName node.name
  pub comment : (key : ℕ) (node : Node) → t.nodes key ≡ Some node → IsComment node.comment

-- the number of blocks of a node
abbrev pub cost_in : Format → Option Content → ℕ
cost_in format None = 0
cost_in format (Some (Directory keys)) = 1
cost_in format (Some (File bytes)) = let d = data_count format (length bytes) in 1 + d + extension_count d

-- the number of blocks of all nodes, the bitmap and the lost blocks
abbrev pub used : Tree → ℕ
used t =
    total (λ key. cost_in t.format (content_at t key)) t.blocks + page_count t.blocks
    + total (λ block. cond (is_some (t.lost block)) 1 0) t.blocks

-- the number of free blocks
abbrev pub free : Tree → ℕ
free t = t.blocks - BOOT_BLOCKS - used t

-- for this size the file needs more new blocks than are free
abbrev pub needs_more : Tree → ℕ → ℕ → Bool
needs_more t file size = nat_lt (free t + block_cost t.format (size_of t file)) (block_cost t.format size)
