-- Chains of header and extension blocks that are known from other files.
use Rattle.std.specs.Prelude.{◌≡◌, ℕ, ◌+◌, ◌<◌, ◌≤◌, ◌==◌, ◌||◌, not, List, Bool, true, false, Option, Some, None, length, slice_get, slice_index, flat_map, take, drop}
use Rattle.adf_block.specs.Image.{block_count}
use Rattle.adf_block.specs.declared.layout.TheConstants.{NEXT_EXTENSION}
use Rattle.ados_model.specs.declared.fault.FaultKind.TheVariants.{BadSequence}
use Rattle.ados_model.specs.Faults.{InImage, IsOfs, LinkedOnce, last_link, pointers_of}
use Rattle.ados_faults.specs.declared.header_list.HeaderList.{HeaderList}
use Rattle.ados_faults.specs.declared.data_summary.DataSummary.{DataSummary}
use Rattle.ados_faults.specs.declared.tail.Tail.{Tail}
use Rattle.ados_faults.specs.steps.FileNotes.{ArePlacesNoted, IsHeld, IsPlaceNoted}
use Rattle.ados_faults.specs.steps.Noted.{IsNoted, cell_of}

-- the summary is that of these data blocks
pub record IsSummary (image : List ℕ) (blocks : List ℕ) (summary : DataSummary) : Type 0 where
  pub count : summary.count ≡ length blocks
  pub held : IsOfs image → IsHeld image blocks summary.held
  pub first : IsOfs image → slice_get blocks 0 ≡ summary.first

-- what these data blocks show with so many before them is noted
pub record ArePlacedAt (image : List ℕ) (cells : List Bool) (blocks : List ℕ) (position : ℕ) : Type 0 where
  pub placed : (i : ℕ) → i < length blocks → InImage image (slice_index blocks i) → IsPlaceNoted image cells (slice_index blocks i) (position + i) (slice_get blocks (i + 1))

-- a wrong sequence number of each of these data blocks is noted
pub record AreSettled (image : List ℕ) (cells : List Bool) (blocks : List ℕ) : Type 0 where
  pub each : (i : ℕ) → i < length blocks → InImage image (slice_index blocks i) → IsNoted cells (cell_of BadSequence (slice_index blocks i))

-- the chain from the block on ends outside the image. Its data blocks are summed up, and what they show at the position of
-- the tail is noted. If they were checked at two positions, a wrong sequence number of each is noted too
pub record IsTail (image : List ℕ) (cells : List Bool) (block : ℕ) (tail : Tail) : Type 0 where
  pub headers : List ℕ
  pub linked : LinkedOnce image NEXT_EXTENSION block headers
  pub ends : ¬ InImage image (last_link image NEXT_EXTENSION headers)
  pub summed : IsSummary image (flat_map (pointers_of image) headers) tail.summary
  pub placed : IsOfs image → ArePlacedAt image cells (flat_map (pointers_of image) headers) tail.position
  pub settled : IsOfs image → tail.is_settled ≡ true → AreSettled image cells (flat_map (pointers_of image) headers)

-- what is kept of each chain is as `IsTail` says
pub record AreTails (image : List ℕ) (cells : List Bool) (tails : List (Option Tail)) : Type 0 where
  pub size : length tails ≡ block_count image
  pub each : (block : ℕ) (tail : Tail) → slice_get tails block ≡ Some (Some tail) → IsTail image cells block tail

-- the data blocks of the chain need no check at this position
abbrev pub is_known_at : Tail → ℕ → Bool
is_known_at tail position = tail.is_settled || (tail.position == position)

-- the data blocks of the chain are checked at two positions, if this is one more
abbrev pub is_settled_at : Option Tail → ℕ → Bool
is_settled_at None position = false
is_settled_at (Some tail) position = tail.is_settled || not (tail.position == position)

-- the first header and extension blocks of the file are listed. The data blocks of the rest are summed up, and what they
-- show is noted
pub record IsHeaderList (image : List ℕ) (cells : List Bool) (file : ℕ) (listed : List ℕ) (list : HeaderList) : Type 0 where
  pub headers : List ℕ
  pub linked : LinkedOnce image NEXT_EXTENSION file headers
  pub within : length listed ≤ length headers
  pub same : (k : ℕ) → k < length listed → slice_index headers k ≡ slice_index listed k
  pub count : list.count ≡ length (flat_map (pointers_of image) (take (length listed) headers))
  pub summed : IsSummary image (flat_map (pointers_of image) (drop (length listed) headers)) list.rest
  pub places : IsOfs image → ArePlacesNoted image cells (flat_map (pointers_of image) headers) list.count
  pub ends : list.is_open ≡ true → ¬ InImage image (last_link image NEXT_EXTENSION headers)

-- the data blocks in the pointers of these header and extension blocks from number n on are summed up, and what they show
-- is noted
pub record IsAlong (image : List ℕ) (cells : List Bool) (headers : List ℕ) (n position : ℕ) (summary : DataSummary) : Type 0 where
  pub position_is : position ≡ length (flat_map (pointers_of image) (take n headers))
  pub summed : IsSummary image (flat_map (pointers_of image) (drop n headers)) summary
  pub places : IsOfs image → ArePlacesNoted image cells (flat_map (pointers_of image) headers) position

-- the data blocks of the file are summed up from header or extension block number n on, and what they show is noted
abbrev pub IsAlongFile : List ℕ → List Bool → ℕ → ℕ → ℕ → DataSummary → Type 0
IsAlongFile image cells file n position summary = (headers : List ℕ) → LinkedOnce image NEXT_EXTENSION file headers → IsAlong image cells headers n position summary
