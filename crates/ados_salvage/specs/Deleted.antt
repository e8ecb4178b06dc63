-- Deleted entries: what is left of an entry that was removed, and how much of a deleted file can be recovered.
use Rattle.std.specs.Prelude.{◌≡◌, ◌≢◌, ℕ, ◌<◌, ◌&&◌, nat_le, nat_lt, not, Bool, MatchBool, IfSome, List, length, map, count_by, All, AllPairs, Contains, Option, Some, None}
use Rattle.adf_block.specs.Image.{block_count, block_sum, has_free_bit}
use Rattle.adf_block.specs.declared.layout.TheConstants.{BOOT_BLOCKS}
use Rattle.adf_block.specs.Whole.{HasFreeBit}
use Rattle.ados_map.specs.Pages.{page_block, pages_of}
use Rattle.ados_model.specs.declared.fault.FaultKind.{FaultKind}
use Rattle.ados_model.specs.declared.role.Role.{Role}
use Rattle.ados_model.specs.declared.role.Role.TheVariants as roles
use Rattle.ados_model.specs.Faults.{HasDirectoryType, HasFileType, InImage, Reached, Shows, root_of}
use Rattle.ados_model.specs.Rebuilt.{HasValidBitmap}
use Rattle.ados_salvage.specs.declared.known.deleted.Deleted.{Deleted}
use Rattle.ados_salvage.specs.declared.known.deleted.Recovery.{Recovery}
use Rattle.ados_salvage.specs.declared.known.deleted.Recovery.TheVariants as recoveries
use Rattle.ados_salvage.specs.Holders.{HasKnownBlocks, HeaderNames}
use Rattle.ados_salvage.specs.Sound.{IsIntact, IsSoundHeader, own_blocks}

-- bitmap block p is inside the volume, its checksum is right, and it is none of the bitmap blocks before it
pub record IsTrustedPage (image : List ℕ) (p : ℕ) : Type 0 where
  pub inside : InImage image (page_block image p)
  pub sum : block_sum image (page_block image p) ≡ 0
  pub apart : (q : ℕ) → q < p → page_block image q ≢ page_block image p

-- each bitmap block that the root names can be trusted by itself
abbrev pub AreTrustedPages : List ℕ → Type 0
AreTrustedPages image = (p : ℕ) → p < pages_of image → IsTrustedPage image p

-- a bitmap that can be believed: the root shows no fault and says that the bitmap is valid, the bitmap blocks are sound,
-- and no reached block is marked free. Other faults of the image do not matter
pub record IsTrustedBitmap (image : List ℕ) : Type 0 where
  pub root : (kind : FaultKind) → ¬ Shows image kind (root_of image)
  pub valid : HasValidBitmap image
  pub pages : AreTrustedPages image
  pub in_use : (block : ℕ) (role : Role) → Reached image block role → ¬ HasFreeBit image block

-- whether the bitmap can be trusted
abbrev pub TellsTrust : List ℕ → Bool → Type 0
TellsTrust image trusted = MatchBool trusted (IsTrustedBitmap image) (¬ IsTrustedBitmap image)

-- a deleted entry: a sound header that nothing names from the root, and that a trusted bitmap marks free
pub record IsDeleted (image : List ℕ) (block : ℕ) : Type 0 where
  pub trusted : IsTrustedBitmap image
  pub header : IsSoundHeader image block
  pub unreached : (role : Role) → ¬ Reached image block role
  pub free : HasFreeBit image block

-- the headers are exactly those of the deleted entries, each once, by block. Without a trusted bitmap there are none
pub record AreDeleted (image headers : List ℕ) : Type 0 where
  pub deleted : All (IsDeleted image) headers
  pub in_order : AllPairs (λ a b. a < b) headers
  pub all : (block : ℕ) → IsDeleted image block → Contains headers block

-- a block of the volume that is marked used
abbrev pub IsUsed : List ℕ → ℕ → Type 0
IsUsed image block = InImage image block × ¬ HasFreeBit image block

-- whether the block is one of the volume that is marked used
abbrev pub is_used : List ℕ → ℕ → Bool
is_used image block = nat_le BOOT_BLOCKS block && nat_lt block (block_count image) && not (has_free_bit image block)

-- another sound header names the block too, whatever became of its file
abbrev pub IsShared : List ℕ → ℕ → ℕ → Type 0
IsShared image file block = (other : ℕ) × (other ≢ file) × HeaderNames image other block

-- so many of these blocks have a property
pub record HasCount (P : ℕ → Type 0) (blocks : List ℕ) (count : ℕ) : Type 0 where
  pub marks : ℕ → Bool
  pub decided : (block : ℕ) → Contains blocks block → MatchBool (marks block) (P block) (¬ P block)
  pub counted : count ≡ count_by marks blocks

-- the entry that a block in this role belongs to: an entry belongs to itself
abbrev pub entry_in : ℕ → Role → Option ℕ
entry_in block (roles.Entry dir s) = Some block
entry_in block (roles.Data file) = Some file
entry_in block (roles.Extension file) = Some file
entry_in block role = None

-- the block belongs to the reached entry
abbrev pub IsUser : List ℕ → ℕ → ℕ → Type 0
IsUser image block entry = (role : Role) × Reached image block role × (entry_in block role ≡ Some entry)

-- one of the blocks belongs to the reached entry
abbrev pub UsesOne : List ℕ → List ℕ → ℕ → Type 0
UsesOne image blocks entry = (block : ℕ) × Contains blocks block × IsUser image block entry

-- all blocks of the file are marked free
abbrev pub AreAllFree : List ℕ → ℕ → Type 0
AreAllFree image file = All (HasFreeBit image) (own_blocks image file)

-- no block of the file is marked used
abbrev pub AreNoneUsed : List ℕ → ℕ → Type 0
AreNoneUsed image file = All (λ block. ¬ IsUsed image block) (own_blocks image file)

-- no block of the file is one that another sound header names
abbrev pub AreNoneShared : List ℕ → ℕ → Type 0
AreNoneShared image file = All (λ block. ¬ IsShared image file block) (own_blocks image file)

-- so many blocks of the file, at least one, have a property, out of all, which are known
pub record IsPart (P : ℕ → Type 0) (image : List ℕ) (file count all : ℕ) : Type 0 where
  pub is_file : HasFileType image file
  pub known : HasKnownBlocks image file
  pub some : 0 < count
  pub counted : HasCount P (own_blocks image file) count
  pub total : all ≡ length (own_blocks image file)

-- how much of a deleted entry can be recovered. `Free`: the file is intact, all its blocks are marked free, and no other sound
-- header names one of them. `Used`: some are marked used, and if there is an entry, it has one of them. `Shared`: none is, but
-- other sound headers name some. `NotIntact`: the blocks are not known, or none is used or shared
abbrev pub HasRecovery : List ℕ → ℕ → Recovery → Type 0
HasRecovery image file recoveries.Directory = HasDirectoryType image file
HasRecovery image file (recoveries.Free all) = IsIntact image file × AreAllFree image file × AreNoneShared image file × (all ≡ length (own_blocks image file))
HasRecovery image file (recoveries.Used used all by) = IsPart (IsUsed image) image file used all × IfSome by (UsesOne image (own_blocks image file))
HasRecovery image file (recoveries.Shared shared all) = AreNoneUsed image file × IsPart (IsShared image file) image file shared all
HasRecovery image file recoveries.NotIntact = HasFileType image file × ¬ IsIntact image file × (HasKnownBlocks image file → AreNoneUsed image file × AreNoneShared image file)

-- a deleted entry with what can be recovered of it
abbrev pub IsToldDeleted : List ℕ → Deleted → Type 0
IsToldDeleted image entry = IsDeleted image entry.header × HasRecovery image entry.header entry.recovery

-- the entries are exactly the deleted ones of the image, each once, by block
pub record ListsDeleted (image : List ℕ) (entries : List Deleted) : Type 0 where
  pub told : All (IsToldDeleted image) entries
  pub in_order : AllPairs (λ a b. a.header < b.header) entries
  pub all : (block : ℕ) → IsDeleted image block → Contains (map (λ entry. entry.header) entries) block
