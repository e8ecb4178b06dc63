-- Why entries are doubtful or cut short, with the block that shows it.
use Rattle.std.specs.Prelude.{◌≡◌, ◌≢◌, ◌⊎◌, ℕ, ◌<◌, ◌==◌, ◌&&◌, ◌||◌, min, nat_lt, Bool, true, false, MatchOption, List, ◌++◌, codes, decimal, length, Option, Some, None, option_map, slice_index_or, ⊤}
use Rattle.std.specs.List.{AllZip}
use Rattle.adf_block.specs.Fields.{format_of, own_key, parent_key, pointer, pointer_count, primary_type, secondary_type}
use Rattle.adf_block.specs.Image.{block_count, block_sum, byte_at, long}
use Rattle.adf_block.specs.declared.layout.Format.{Format}
use Rattle.adf_block.specs.declared.layout.Format.TheVariants.{Ofs, Ffs}
use Rattle.adf_block.specs.declared.layout.TheConstants.{COMMENT_BYTE, DATA_TYPE, FILE_TYPE, LIST_TYPE, NEXT_EXTENSION, TABLE_LONGS}
use Rattle.ados_census.specs.Fillers.{HoldsFiller}
use Rattle.ados_salvage.specs.declared.salvaged.HeaderState.TheVariants as heads
use Rattle.ados_salvage.specs.declared.salvaged.Salvaged.{Salvaged}
use Rattle.ados_salvage.specs.declared.salvaged.State.{State}
use Rattle.ados_salvage.specs.declared.salvaged.State.TheVariants.{DoubtfulDirectory, Doubtful, Broken}
use Rattle.ados_salvage.specs.Marks.{IsHole}
use Rattle.ados_salvage.specs.Parts.{header_at}
use Rattle.ados_salvage.specs.Salvaged.{Saved}
use Rattle.adf_rescue.specs.declared.doubt.Doubt.{Doubt}
use Rattle.adf_rescue.specs.declared.doubt.Doubt.TheVariants.{Sum, Comment, Hole, Shared, Filler, Field, Gone, Cut}
use Rattle.adf_rescue.specs.declared.evidence.Link.{Link}
use Rattle.adf_rescue.specs.declared.evidence.Hint.{Hint}

-- whether the block is an extension block of the file by its types, its file and its own number, whatever else it has
abbrev pub is_extension : List ℕ → ℕ → ℕ → Bool
is_extension image header block =
    (primary_type image block == LIST_TYPE) && (secondary_type image block == FILE_TYPE) && (parent_key image block == header) && (own_key image block == block)

-- whether the block is a pointer block of the file: its header, or such an extension block
abbrev pub is_holder : List ℕ → ℕ → ℕ → Bool
is_holder image header block = nat_lt block (block_count image) && ((block == header) || is_extension image header block)

-- whether pointer i of a pointer block, one that is in use, names the block, or the link to the next extension block does
abbrev pub names : List ℕ → Link → ℕ → Bool
names image link block =
    (nat_lt link.i (min TABLE_LONGS (pointer_count image link.holder)) && (pointer image link.holder link.i == block)) || (long image link.holder NEXT_EXTENSION == block)

-- whether the block says that it is an OFS data block of the file
abbrev pub is_data_of : Format → List ℕ → ℕ → ℕ → Bool
is_data_of Ofs image header block = (primary_type image block == DATA_TYPE) && (own_key image block == header)
is_data_of Ffs image header block = false

-- whether the block is one of the entry with this header: the header, one that the link names, or in OFS one that names the header
abbrev pub is_part : List ℕ → ℕ → Link → ℕ → Bool
is_part image header link block =
    nat_lt block (block_count image)
    && ((block == header) || (is_holder image header link.holder && names image link block) || is_data_of (format_of image) image header block)

-- the block is one of another entry too
pub record IsInOther (saved : Saved) (header : ℕ) (link : Link) (block place : ℕ) : Type 0 where
  pub inside : place < length saved.entries
  pub apart : header_at saved.entries place ≢ header
  pub part : is_part saved.image (header_at saved.entries place) link block ≡ true

-- why the header is doubtful: its checksum is wrong, its comment is too long, or else another field of it is wrong
abbrev pub IsHeaderDoubt : Saved → ℕ → Doubt → Type 0
IsHeaderDoubt saved header (Sum block) = (block ≡ header) × (block_sum saved.image header ≢ 0)
IsHeaderDoubt saved header Comment = 79 < byte_at saved.image header COMMENT_BYTE
IsHeaderDoubt saved header (Field block) = block ≡ header
IsHeaderDoubt saved header doubt = ⊥

-- why a file with a sound header is doubtful: a block of it has a wrong checksum, could not be read, is one of another entry too, or holds a
-- known filler where fillers count; or else a field of one of its blocks is wrong
abbrev pub IsBlockDoubt : Saved → ℕ → Hint → Doubt → Type 0
IsBlockDoubt saved header hint (Sum block) = (is_part saved.image header hint.own block ≡ true) × (block_sum saved.image block ≢ 0)
IsBlockDoubt saved header hint (Hole block) = (is_part saved.image header hint.own block ≡ true) × IsHole saved.holes block
IsBlockDoubt saved header hint (Shared block place) = (is_part saved.image header hint.own block ≡ true) × IsInOther saved header hint.other block place
IsBlockDoubt saved header hint (Filler block) = (is_part saved.image header hint.own block ≡ true) × (saved.fillers ≡ true) × HoldsFiller saved.image block
IsBlockDoubt saved header hint (Field block) = (block ≡ header) ⊎ (is_part saved.image header hint.own block ≡ true)
IsBlockDoubt saved header hint doubt = ⊥

-- why a file without a header is doubtful: its header could not be read, or it is gone
abbrev pub IsGoneDoubt : Saved → ℕ → Doubt → Type 0
IsGoneDoubt saved header (Hole block) = (block ≡ header) × IsHole saved.holes header
IsGoneDoubt saved header Gone = ⊤
IsGoneDoubt saved header doubt = ⊥

-- the reason for an entry with this state: there is one exactly for a doubtful entry and for one that is cut short
abbrev pub IsReason : Saved → ℕ → State → Option Doubt → Type 0
IsReason saved header DoubtfulDirectory doubt = MatchOption doubt ⊥ (IsHeaderDoubt saved header)
IsReason saved header (Doubtful heads.Doubtful length) doubt = MatchOption doubt ⊥ (IsHeaderDoubt saved header)
IsReason saved header (Doubtful heads.Sound length) doubt = MatchOption doubt ⊥ (λ why. (hint : Hint) × IsBlockDoubt saved header hint why)
IsReason saved header (Doubtful heads.Gone length) doubt = MatchOption doubt ⊥ (IsGoneDoubt saved header)
IsReason saved header (Broken missing true length) doubt = doubt ≡ Some Cut
IsReason saved header state doubt = doubt ≡ None

-- for each entry, why it is doubtful or cut short, if it is
abbrev pub AreDoubts : Saved → List (Option Doubt) → Type 0
AreDoubts saved doubts = AllZip (λ (entry : Salvaged) (doubt : Option Doubt). IsReason saved entry.header entry.state doubt) saved.entries doubts

abbrev pub doubt_at : List (Option Doubt) → ℕ → Option Doubt
doubt_at doubts place = slice_index_or doubts place None

-- that in words; `other` is the path of the entry that has the block too
abbrev pub reason_text : List ℕ → Doubt → List ℕ
reason_text other (Sum block) = codes "block " ++ decimal block ++ codes " has a wrong checksum"
reason_text other Comment = codes "the comment in its header is too long"
reason_text other (Hole block) = codes "block " ++ decimal block ++ codes " could not be read"
reason_text other (Shared block place) = codes "block " ++ decimal block ++ codes " is in '" ++ other ++ codes "' too"
reason_text other (Filler block) = codes "block " ++ decimal block ++ codes " holds a filler"
reason_text other (Field block) = codes "block " ++ decimal block ++ codes " has a wrong field"
reason_text other Gone = codes "its header is gone, and it is made of the data blocks that name it"
reason_text other Cut = codes "incomplete files may have at most four times the bytes of the image in all"

abbrev pub reason_by : List ℕ → Option Doubt → Option (List ℕ)
reason_by other doubt = option_map (reason_text other) doubt
