-- The kind of a disk, by what its blocks say. Each header of a file can have a vote, and so has the boot block.
use Rattle.std.specs.Prelude.{◌≡◌, ℕ, ◌-◌, ◌==◌, ◌&&◌, min, nat_lt, nat_le, not, Bool, if◌then◌else◌, List, count_by, Option, Some, None}
use Rattle.std.specs.List.{range_with_len}
use Rattle.adf_block.specs.Frame.{OnlyLong}
use Rattle.adf_block.specs.Image.{block_count, block_sum, long}
use Rattle.adf_block.specs.Fields.{file_size, own_key, pointer, pointer_count, primary_type, secondary_type, sequence_number}
use Rattle.adf_block.specs.declared.beside.TheConstants.{KIND}
use Rattle.adf_block.specs.declared.layout.Format.{Format}
use Rattle.adf_block.specs.declared.layout.Format.TheVariants.{Ofs, Ffs}
use Rattle.adf_block.specs.declared.layout.TheConstants.{BOOT_BLOCKS, DATA_TYPE, FILE_TYPE, HEADER_TYPE, TABLE_LONGS}
use Rattle.ados_model.specs.Tree.{data_count}
use Rattle.ados_salvage.specs.Found.{AreEntries}
use Rattle.ados_salvage.specs.declared.kind.TheConstants.{FFS_KIND, OFS_KIND}

-- the block is an OFS data block with a right checksum, by its number one of a file
abbrev pub is_ofs_data : List ℕ → ℕ → Bool
is_ofs_data image block = (primary_type image block == DATA_TYPE) && nat_lt 0 (sequence_number image block) && (block_sum image block == 0)

-- the header's first pointer names such a block, which names the header and has number 1
abbrev pub has_own_data : List ℕ → ℕ → Bool
has_own_data image header =
    nat_le BOOT_BLOCKS (pointer image header 0) && nat_lt (pointer image header 0) (block_count image) && is_ofs_data image (pointer image header 0)
    && (own_key image (pointer image header 0) == header) && (sequence_number image (pointer image header 0) == 1)

-- the number of pointers in the header of a file of this size
abbrev pub pointers_for : Format → ℕ → ℕ
pointers_for format size = min TABLE_LONGS (data_count format size)

-- the header of a file, with a right checksum, has as many pointers as its size needs in FFS, and not as many as in OFS
abbrev pub has_ffs_count : List ℕ → ℕ → Bool
has_ffs_count image header =
    (primary_type image header == HEADER_TYPE) && (secondary_type image header == FILE_TYPE) && (own_key image header == header) && (block_sum image header == 0)
    && (pointer_count image header == pointers_for Ffs (file_size image header)) && not (pointer_count image header == pointers_for Ofs (file_size image header))

-- a vote for OFS: the header has its own OFS data. One for FFS: it has none, and its count is that of FFS
abbrev pub votes_for : Format → List ℕ → ℕ → Bool
votes_for Ofs image header = has_own_data image header
votes_for Ffs image header = not (has_own_data image header) && has_ffs_count image header

abbrev pub votes : Format → List ℕ → List ℕ → ℕ
votes format image headers = count_by (votes_for format image) headers

-- the kind for which more headers vote; none where equally many do
abbrev pub by_votes : ℕ → ℕ → Option Format
by_votes ofs ffs = if nat_lt ffs ofs then Some Ofs else (if nat_lt ofs ffs then Some Ffs else None)

-- the kind in the boot block, which also is the vote of one; none where it names neither kind, or where all other votes are against it
abbrev pub by_boot : ℕ → ℕ → ℕ → Option Format
by_boot boot ofs ffs =
    if (boot == OFS_KIND) && not ((ofs == 0) && nat_lt 0 ffs) then Some Ofs
    else (if (boot == FFS_KIND) && not ((ffs == 0) && nat_lt 0 ofs) then Some Ffs else None)

-- OFS, where some block is OFS data of any file, and else FFS
abbrev pub by_data : ℕ → Format
by_data count = if nat_lt 0 count then Ofs else Ffs

-- the first kind that is told
abbrev pub first_told : Option Format → Option Format → Option Format → Format → Format
first_told (Some kind) _ _ _ = kind
first_told None (Some kind) _ _ = kind
first_told None None (Some kind) _ = kind
first_told None None None kind = kind

-- the blocks of the volume
abbrev pub volume_blocks : List ℕ → List ℕ
volume_blocks image = range_with_len BOOT_BLOCKS (block_count image - BOOT_BLOCKS)

-- the kind by the evidence: the votes of the entries to which the root leads, else the boot block, else the votes of all blocks, else
-- whether there are OFS data blocks
abbrev pub kind_by : List ℕ → List ℕ → Format
kind_by image entries =
    first_told (by_votes (votes Ofs image entries) (votes Ffs image entries))
    (by_boot (long image 0 KIND) (votes Ofs image (volume_blocks image)) (votes Ffs image (volume_blocks image)))
    (by_votes (votes Ofs image (volume_blocks image)) (votes Ffs image (volume_blocks image)))
    (by_data (count_by (is_ofs_data image) (volume_blocks image)))

abbrev pub SaysKind : List ℕ → Format → Type 0
SaysKind image kind = (entries : List ℕ) × AreEntries image entries × (kind ≡ kind_by image entries)

-- the first long of a disk of this kind
abbrev pub kind_long : Format → ℕ
kind_long Ofs = OFS_KIND
kind_long Ffs = FFS_KIND

-- the image with the kind that the evidence says: as it is if its first long says so too, and else with that long
pub record IsReadAs (image read : List ℕ) : Type 0 where
  pub kind : Format
  pub says : SaysKind image kind
  pub stands : long read 0 KIND ≡ kind_long kind
  pub kept : long image 0 KIND ≡ kind_long kind → read ≡ image
  pub rest : OnlyLong 0 KIND image read
