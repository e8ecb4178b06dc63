-- The data blocks that are missing in files, as runs, and their bytes.
use Rattle.std.specs.Prelude.{◌≡◌, ℕ, ◌+◌, ◌-◌, ◌*◌, ◌<◌, ◌≤◌, ◌==◌, ◌&&◌, min, nat_lt, Bool, List, [], ◌∷◌, length, map, All, AllPairs, Contains, Any, filter, slice_get, if◌then◌else◌, Vec}
use Rattle.std.specs.Global.{Global}
use Rattle.std.specs.Option.{option_map_or}
use Rattle.adf_block.specs.Image.{block_count}
use Rattle.adf_block.specs.Fields.{file_size, format_of, own_key, primary_type, secondary_type}
use Rattle.adf_block.specs.declared.layout.Format.{Format}
use Rattle.adf_block.specs.declared.layout.Format.TheVariants.{Ofs, Ffs}
use Rattle.adf_block.specs.declared.layout.TheConstants.{FFS_ROOM, FILE_TYPE, HEADER_TYPE, OFS_ROOM}
use Rattle.ados_salvage.specs.declared.giving.Piece.{Piece}
use Rattle.ados_salvage.specs.declared.salvaged.Salvaged.{Salvaged}
use Rattle.ados_salvage.specs.Salvaged.{Saved, missing_in}
use Rattle.adf_rescue.specs.declared.missing.Run.{Run}
use Rattle.adf_rescue.specs.declared.missing.TheConstants.{MOST_OF_FILE}

-- the values of the list at a place, none where there is no list
abbrev pub values_at : {X : Type 0} → List (Vec X Global) → ℕ → List X
values_at lists place = option_map_or (λ (list : Vec _ Global). list.items) (slice_get lists place) []

-- the numbers of the data blocks that were given to the file at this position of the entries
abbrev pub given_to : List Piece → ℕ → List ℕ
given_to given place = map (λ piece. piece.at) (filter (λ piece. piece.place == place) given)

-- how many data blocks of the entry at this position are missing
abbrev pub missing_at : List Salvaged → ℕ → ℕ
missing_at entries place = option_map_or (λ (entry : Salvaged). missing_in entry.state) (slice_get entries place) 0

-- how many data blocks a file has, of which these were given to it and so many are missing
abbrev pub block_total : List ℕ → ℕ → ℕ
block_total given missing = min (length given + missing) MOST_OF_FILE

-- the number is below the count, and none of these
pub record IsLeftOut (numbers : List ℕ) (count k : ℕ) : Type 0 where
  pub below : k < count
  pub out : ¬ Contains numbers k

-- the number is in the run
abbrev pub IsIn : ℕ → Run → Type 0
IsIn k run = (run.first ≤ k) × (k ≤ run.last)

-- the runs have exactly the numbers with a property; they are in order, and between one and the next there is another number
pub record AreRuns (P : ℕ → Type 0) (runs : List Run) : Type 0 where
  pub apart : AllPairs (λ run later. run.last + 1 < later.first) runs
  pub rising : All (λ run. run.first ≤ run.last) runs
  pub only : All (λ run. (k : ℕ) → IsIn k run → P k) runs
  pub all : (k : ℕ) → P k → Any (IsIn k) runs

-- data block k of the file at this position is missing: it has so many data blocks, and none was given to it as this one
abbrev pub IsMissing : Saved → ℕ → ℕ → Type 0
IsMissing saved place = IsLeftOut (given_to saved.given place) (block_total (given_to saved.given place) (missing_at saved.entries place))

-- for each entry of the salvage, the runs of its missing data blocks
pub record AreMissing (saved : Saved) (runs : List (Vec Run Global)) : Type 0 where
  pub count : length runs ≡ length saved.entries
  pub each : (place : ℕ) → place < length saved.entries → AreRuns (IsMissing saved place) (values_at runs place)

-- the run from a number up to the one before another, if there are numbers between
abbrev pub run_to : ℕ → ℕ → List Run
run_to first behind = if nat_lt first behind then record { first = first; last = behind - 1 } ∷ [] else []

-- the number of bytes of a file in a data block
abbrev pub room_of : Format → ℕ
room_of Ofs = OFS_ROOM
room_of Ffs = FFS_ROOM

-- the first byte of the file in a run of its data blocks
abbrev pub first_byte : List ℕ → Run → ℕ
first_byte image run = room_of (format_of image) * run.first

-- whether the block is the header of a file by its types and its own number
abbrev pub is_header_of_file : List ℕ → ℕ → Bool
is_header_of_file image header =
    nat_lt header (block_count image) && (primary_type image header == HEADER_TYPE) && (secondary_type image header == FILE_TYPE) && (own_key image header == header)

-- the number of bytes up to the end of data block k, in blocks with this room: the size of the file, if that ends in this block
abbrev pub end_by_size : ℕ → ℕ → ℕ → ℕ
end_by_size room size k = if nat_lt (room * k) size && nat_lt size (room * (k + 1)) then size else room * (k + 1)

-- the same of a file with this header, by the size in it; of one whose header is gone, as if each block was full
abbrev pub end_of_block : List ℕ → ℕ → ℕ → ℕ
end_of_block image header k =
    end_by_size (room_of (format_of image)) (if is_header_of_file image header then file_size image header else 0) k

-- the last byte of the file in a run of its data blocks
abbrev pub last_byte : List ℕ → ℕ → Run → ℕ
last_byte image header run = end_of_block image header run.last - 1
