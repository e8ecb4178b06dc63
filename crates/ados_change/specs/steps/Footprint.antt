-- The bytes that a change of fields or of entries writes.
use Rattle.std.specs.Prelude.{◌≡◌, ◌≢◌, ℕ, ◌+◌, ◌/◌, ◌<◌, ◌≤◌, ◌⊎◌, List, Some}
use Rattle.adf_block.specs.Whole.{HasFreeBit}
use Rattle.adf_block.specs.declared.layout.TheConstants.{BOOT_BLOCKS, FIRST_SLOT, TABLE_LONGS, PROTECTION, COMMENT_BYTE, DATE, NAME_BYTE, DISK_DATE, NEXT_IN_CHAIN, PARENT}
use Rattle.adf_block.specs.declared.beside.TheConstants.{CHECKSUM}
use Rattle.ados_model.specs.Kept.{InText}
use Rattle.ados_model.specs.Stands.{Duty, HasDuty, Stands}
use Rattle.ados_model.specs.Tree.{Node, Tree, root}
use Rattle.ados_model.specs.Tree.Content.{Directory}

-- a bitmap block
abbrev pub IsPage : (old : List ℕ) (t : Tree) → Stands old t → ℕ → Type 0
IsPage old t st b = (p : ℕ) × HasDuty t st.layout b (Duty.Page p)

-- a long in the block of a node that is a field in each role, where `top` is the root: the checksum, a directory's hash
-- table, an entry's protection, the date, the root's disk date, an entry's next-in-chain and parent
pub data IsPlain (top b : ℕ) (node : Node) (j : ℕ) : Type 0 where
  sum : j ≡ CHECKSUM → IsPlain top b node j
  table : (keys : List ℕ) → node.content ≡ Directory keys → FIRST_SLOT ≤ j → j < FIRST_SLOT + TABLE_LONGS → IsPlain top b node j
  bits : b ≢ top → j ≡ PROTECTION → IsPlain top b node j
  date : DATE ≤ j → j < DATE + 3 → IsPlain top b node j
  disk : b ≡ top → DISK_DATE ≤ j → j < DISK_DATE + 3 → IsPlain top b node j
  link : b ≢ top → NEXT_IN_CHAIN ≤ j → j < PARENT + 1 → IsPlain top b node j

-- the footprint of a change, apart from bitmap blocks: byte i of block b is in a block newly in use, in such a long, in
-- a new name, or in the new comment of an entry
pub data IsWritten (old : List ℕ) (t : Tree) (st : Stands old t) (new : List ℕ) (b i : ℕ) : Type 0 where
  of_none : BOOT_BLOCKS ≤ b → ¬ HasFreeBit new b → ((duty : Duty) → ¬ HasDuty t st.layout b duty) → IsWritten old t st new b i
  of_node : (node : Node) → t.nodes b ≡ Some node → IsPlain (root t) b node (i / 4) → IsWritten old t st new b i
  of_name : (node : Node) → t.nodes b ≡ Some node → InText new b NAME_BYTE i → i ≤ NAME_BYTE + 30 → IsWritten old t st new b i
  of_comment : (node : Node) → t.nodes b ≡ Some node → b ≢ root t → InText new b COMMENT_BYTE i → i < COMMENT_BYTE + 80 → IsWritten old t st new b i

-- the whole footprint
abbrev pub IsChanged : (old : List ℕ) (t : Tree) → Stands old t → List ℕ → ℕ → ℕ → Type 0
IsChanged old t st new b i = IsPage old t st b ⊎ IsWritten old t st new b i
