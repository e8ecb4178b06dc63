-- What a block is by its own bytes, whatever leads to it. A block is sound as a kind if its fields are right for this
-- kind and its longs sum to 0. It is sound but for one long if the sum is wrong, and another value there makes it sound.
use Rattle.std.specs.Prelude.{◌≡◌, ◌≢◌, ℕ, ◌+◌, ◌-◌, ◌*◌, ◌/◌, ◌%◌, ◌^◌, ◌<◌, ◌≤◌, ◌==◌, ◌⊎◌, ⊤, if◌then◌else◌}
use Rattle.std.specs.Prelude.{List, [], ◌∷◌, ◌++◌, map, All, Option, Some, None}
use Rattle.adf_block.specs.Image.{block_count, block_sum, long, total, IsInside}
use Rattle.adf_block.specs.declared.layout.TheConstants.{BLOCK_LONGS, PRIMARY_TYPE, OWN_KEY, SECONDARY_TYPE, PARENT}
use Rattle.adf_block.specs.declared.layout.TheConstants.{HEADER_TYPE, DATA_TYPE, LIST_TYPE, DIRECTORY_TYPE, FILE_TYPE}
use Rattle.adf_block.specs.declared.layout.TheConstants.{POINTER_COUNT, TABLE_LONGS, COMMENT_BYTE, NAME_BYTE}
use Rattle.adf_block.specs.declared.layout.TheConstants.{SEQUENCE, HELD, NEXT_DATA, OFS_ROOM}
use Rattle.adf_block.specs.declared.beside.TheConstants.{CHECKSUM}
use Rattle.ados_name.specs.declared.name.TheConstants.Name.{MAX_LEN as MOST_NAME}
use Rattle.ados_name.specs.declared.comment.TheConstants.Comment.{MAX_LEN as MOST_COMMENT}
use Rattle.ados_census.specs.declared.class.BlockClass.{BlockClass}
use Rattle.ados_census.specs.declared.class.BlockKind.{BlockKind}
use Rattle.ados_census.specs.declared.class.BlockKind.TheVariants.{FileHeader, DirectoryHeader, Extension, OfsData, Bitmap}
use Rattle.ados_census.specs.declared.class.TheConstants.{BLOCK_KINDS}
use Rattle.ados_census.specs.declared.class.WrongLong.{WrongLong}

-- byte p of a block with these longs
abbrev pub byte_of : (ℕ → ℕ) → ℕ → ℕ
byte_of longs p = longs (p / 4) / 2 ^ (24 - 8 * (p % 4)) % 2 ^ 8

-- the sum of these 128 longs, modulo 2^32
unfoldable pub sum_of : (ℕ → ℕ) → ℕ
sum_of longs = total longs BLOCK_LONGS % 2 ^ 32

-- byte p of the block is a `/` or a `:` of its name
abbrev pub IsSeparatorAt : (ℕ → ℕ) → ℕ → Type 0
IsSeparatorAt longs p =
    (NAME_BYTE < p) × (p ≤ NAME_BYTE + byte_of longs NAME_BYTE) × ((byte_of longs p ≡ 47) ⊎ (byte_of longs p ≡ 58))

-- the name is empty, too long, or has a `/` or a `:`
abbrev pub HasWrongName : (ℕ → ℕ) → Type 0
HasWrongName longs =
    (byte_of longs NAME_BYTE ≡ 0) ⊎ (MOST_NAME < byte_of longs NAME_BYTE) ⊎ ((p : ℕ) × IsSeparatorAt longs p)

-- the header of a file or directory by its types, its own number and its name, whatever else it has
pub record HasHeading (secondary block : ℕ) (longs : ℕ → ℕ) : Type 0 where
  pub primary : longs PRIMARY_TYPE ≡ HEADER_TYPE
  pub own_key : longs OWN_KEY ≡ block
  pub secondary_type : longs SECONDARY_TYPE ≡ secondary
  pub name : ¬ HasWrongName longs

-- an extension block by its types and its own number, whatever else it has
pub record HasListHeading (block : ℕ) (longs : ℕ → ℕ) : Type 0 where
  pub primary : longs PRIMARY_TYPE ≡ LIST_TYPE
  pub own_key : longs OWN_KEY ≡ block
  pub secondary_type : longs SECONDARY_TYPE ≡ FILE_TYPE

-- the block looks like this kind by its types, its own number and its name, as far as the kind has them, whatever else it has
abbrev pub LooksLike : BlockKind → ℕ → (ℕ → ℕ) → Type 0
LooksLike FileHeader block longs = HasHeading FILE_TYPE block longs
LooksLike DirectoryHeader block longs = HasHeading DIRECTORY_TYPE block longs
LooksLike Extension block longs = HasListHeading block longs
LooksLike OfsData block longs = longs PRIMARY_TYPE ≡ DATA_TYPE
LooksLike Bitmap block longs = ⊤

-- the other fields of an extension block: a file whose header is inside the volume, and 1 to 72 pointers
pub record HasPointers (n : ℕ) (longs : ℕ → ℕ) : Type 0 where
  pub file : IsInside n (longs PARENT)
  pub some_pointer : 1 ≤ longs POINTER_COUNT
  pub few_pointers : longs POINTER_COUNT ≤ TABLE_LONGS

-- the other fields of an OFS data block: a file whose header is inside the volume, a number from 1, 1 to 488 bytes, and
-- no link out of the volume
pub record HasData (n : ℕ) (longs : ℕ → ℕ) : Type 0 where
  pub file : IsInside n (longs OWN_KEY)
  pub sequence : 1 ≤ longs SEQUENCE
  pub not_empty : 1 ≤ longs HELD
  pub room : longs HELD ≤ OFS_ROOM
  pub link : longs NEXT_DATA < n

-- the other fields of a kind; of a header the length of its comment
abbrev pub HasOtherFields : BlockKind → ℕ → (ℕ → ℕ) → Type 0
HasOtherFields FileHeader n longs = byte_of longs COMMENT_BYTE ≤ MOST_COMMENT
HasOtherFields DirectoryHeader n longs = byte_of longs COMMENT_BYTE ≤ MOST_COMMENT
HasOtherFields Extension n longs = HasPointers n longs
HasOtherFields OfsData n longs = HasData n longs
HasOtherFields Bitmap n longs = ⊤

-- the fields of a kind, in a block after the boot blocks; a bitmap block has none but its sum, so any block whose longs
-- sum to 0 could be one
pub record HasFields (kind : BlockKind) (n block : ℕ) (longs : ℕ → ℕ) : Type 0 where
  pub inside : IsInside n block
  pub looks : LooksLike kind block longs
  pub others : HasOtherFields kind n longs

-- the longs of a name, with its length before it
abbrev pub name_longs : List ℕ
name_longs = map (λ k. NAME_BYTE / 4 + k) (0 ∷ 1 ∷ 2 ∷ 3 ∷ 4 ∷ 5 ∷ 6 ∷ 7 ∷ [])

-- the longs of a header that its fields depend on, first the checksum
abbrev pub header_longs : List ℕ
header_longs = CHECKSUM ∷ PRIMARY_TYPE ∷ OWN_KEY ∷ SECONDARY_TYPE ∷ COMMENT_BYTE / 4 ∷ name_longs

-- the longs that the fields of a kind depend on, first the checksum; of a bitmap block none, since by another sum any
-- block would be one
abbrev pub longs_of : BlockKind → List ℕ
longs_of FileHeader = header_longs
longs_of DirectoryHeader = header_longs
longs_of Extension = CHECKSUM ∷ PRIMARY_TYPE ∷ OWN_KEY ∷ SECONDARY_TYPE ∷ PARENT ∷ POINTER_COUNT ∷ []
longs_of OfsData = CHECKSUM ∷ PRIMARY_TYPE ∷ OWN_KEY ∷ SEQUENCE ∷ HELD ∷ NEXT_DATA ∷ []
longs_of Bitmap = []

-- the longs of the block, with what is wanted in place of a wrong one
abbrev pub mended : List ℕ → ℕ → Option WrongLong → ℕ → ℕ
mended image block None = long image block
mended image block (Some wrong) = λ i. if i == wrong.long then wrong.wanted else long image block i

-- sound as this kind: its fields are right, and its longs sum to 0
pub record IsSoundAs (image : List ℕ) (block : ℕ) (kind : BlockKind) : Type 0 where
  pub fields : HasFields kind (block_count image) block (long image block)
  pub sum : block_sum image block ≡ 0

-- sound as this kind with what is wanted in place of a wrong long
pub record IsSoundWith (image : List ℕ) (block : ℕ) (kind : BlockKind) (wrong : WrongLong) : Type 0 where
  pub fields : HasFields kind (block_count image) block (mended image block (Some wrong))
  pub sum : sum_of (mended image block (Some wrong)) ≡ 0

-- with another value in long i the block is sound as this kind
pub record IsMendedBy (image : List ℕ) (block : ℕ) (kind : BlockKind) (i : ℕ) : Type 0 where
  pub wrong : WrongLong
  pub here : wrong.long ≡ i
  pub fits : wrong.wanted < 2 ^ 32
  pub sound : IsSoundWith image block kind wrong

-- x is in the list, and each element before it has the property
pub record AllBefore {A : Type 0} (P : A → Type 0) (list : List A) (x : A) : Type 0 where
  pub before : List A
  pub after : List A
  pub here : list ≡ before ++ x ∷ after
  pub each : All P before

-- the sum is wrong, and what is wanted in the wrong long makes the block sound as this kind, as no long before it does
pub record IsSoundBut (image : List ℕ) (block : ℕ) (kind : BlockKind) (wrong : WrongLong) : Type 0 where
  pub bad_sum : block_sum image block ≢ 0
  pub found : wrong.found ≡ long image block wrong.long
  pub fits : wrong.wanted < 2 ^ 32
  pub sound : IsSoundWith image block kind wrong
  pub first : AllBefore (λ i. ¬ IsMendedBy image block kind i) (longs_of kind) wrong.long

-- the block is sound as this kind, or sound but for the wrong long
abbrev pub IsKind : List ℕ → ℕ → BlockKind → Option WrongLong → Type 0
IsKind image block kind None = IsSoundAs image block kind
IsKind image block kind (Some wrong) = IsSoundBut image block kind wrong

-- the block is not of this kind, not even but for one long
abbrev pub IsOtherThan : List ℕ → ℕ → BlockKind → Type 0
IsOtherThan image block kind = (wrong : Option WrongLong) → ¬ IsKind image block kind wrong

-- the class of the block: the first kind of which it is, and the wrong long
pub record HasClass (image : List ℕ) (block : ℕ) (class : BlockClass) : Type 0 where
  pub is_kind : IsKind image block class.kind class.wrong
  pub first : AllBefore (IsOtherThan image block) BLOCK_KINDS class.kind

-- the block is of no kind
abbrev pub HasNoClass : List ℕ → ℕ → Type 0
HasNoClass image block = (kind : BlockKind) → IsOtherThan image block kind
