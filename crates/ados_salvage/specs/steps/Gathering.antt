-- The entries of a damaged image while they are gathered.
use Rattle.std.specs.Prelude.{◌≡◌, ℕ, ◌+◌, ◌*◌, ◌<◌, ◌≤◌, Bool, true, List, [], ◌∷◌, ◌++◌, drop, length, All, Contains, slice_index, slice_index_or, Option, Some, None, IsSome}
use Rattle.adf_block.specs.Image.{block_count, long, IsInside}
use Rattle.ados_salvage.specs.declared.known.image_known.Known.{Known}
use Rattle.ados_salvage.specs.Doubtful.{IsHeader, IsPlaceIn, NamesEntries}
use Rattle.ados_salvage.specs.Known.{AreKnown}
use Rattle.ados_salvage.specs.declared.gathered.Gathered.{Gathered}
use Rattle.ados_salvage.specs.declared.salvaged.Salvaged.{Salvaged}
use Rattle.ados_salvage.specs.Salvaged.{IsSalvaged, IsTold, broken_total, headers_of}
use Rattle.ados_salvage.specs.steps.Counting.{AreCounted}
use Rattle.ados_salvage.specs.steps.Giving.{IsGiving}

-- the index of a block's entry, if its header was found
abbrev pub place_at : List (Option ℕ) → ℕ → Option ℕ
place_at places block = slice_index_or places block None

-- the index of each of these entries is the one at its header, and only their headers have one
pub record ArePlacesOf (image : List ℕ) (found : List Salvaged) (places : List (Option ℕ)) : Type 0 where
  pub size : length places ≡ block_count image
  pub placed : (i : ℕ) → i < length (headers_of found) → place_at places (slice_index (headers_of found) i) ≡ Some i
  pub met : (block : ℕ) → IsSome (place_at places block) → Contains (headers_of found) block

-- all headers were found
abbrev pub AreAllHeaders : Known → List (Option ℕ) → Type 0
AreAllHeaders known places = (block : ℕ) → IsHeader known.left_out known.image block → IsSome (place_at places block)

-- a block that the long names as an entry was found, or it is left out
abbrev pub IsFollowed : Known → List (Option ℕ) → ℕ → ℕ → Type 0
IsFollowed known places block at =
    (dir named : ℕ) → IsPlaceIn known.image dir block at → long known.image block at ≡ named → IsInside (block_count known.image) named
    → ¬ Contains known.left_out named → IsSome (place_at places named)

-- each block that this one names as an entry was found, or it is left out
abbrev pub AreFollowed : Known → List (Option ℕ) → ℕ → Type 0
AreFollowed known places block = NamesEntries known.left_out known.image block → (at : ℕ) → IsFollowed known places block at

-- a header that was not found before
abbrev pub IsNew : Known → List (Option ℕ) → ℕ → Type 0
IsNew known places block = IsHeader known.left_out known.image block × (place_at places block ≡ None)

-- the entries found so far, behind as many as were told before; the index of each header is right, and the blocks given and the bytes left
-- fit the broken files, which tell how many of their blocks are missing
pub record AreGathered (before : ℕ) (out : List ℕ) (holes : List Bool) (fillers : Bool) (image : List ℕ) (gathered : Gathered) : Type 0 where
  pub behind : before ≤ length gathered.entries.items
  pub told : All (IsTold out holes fillers image) (drop before gathered.entries.items)
  pub size : length gathered.places.items ≡ block_count image
  pub placed : (i : ℕ) → i < length (headers_of gathered.entries.items)
      → place_at gathered.places.items (slice_index (headers_of gathered.entries.items) i) ≡ Some i
  pub met : (block : ℕ) → IsSome (place_at gathered.places.items block) → Contains (headers_of gathered.entries.items) block
  pub giving : IsGiving holes image gathered.giving
  pub bounded : broken_total gathered.entries.items + gathered.giving.left ≤ 4 * length image
  pub counted : AreCounted before out image gathered.entries.items gathered.giving.pieces.items

-- the entries gathered so far of an image, by what is known of it
pub record AreGatheredBy (known : Known) (gathered : Gathered) : Type 0 where
  pub sure : AreKnown known
  pub so_far : AreGathered known.before known.left_out known.holes.items known.fillers known.image gathered

-- headers found before are still found
abbrev pub KeepsMet : List (Option ℕ) → List (Option ℕ) → Type 0
KeepsMet old new = (block : ℕ) → IsSome (place_at old block) → IsSome (place_at new block)

-- more entries were gathered
abbrev pub GathersMore : Known → Gathered → Gathered → Type 0
GathersMore known old new = AreGatheredBy known new × KeepsMet old.places.items new.places.items

-- one more entry, that of a header, which is found or not
pub record AddsOne (known : Known) (is_found : Bool) (old new : Gathered) : Type 0 where
  pub entry : Salvaged
  pub salvaged : IsSalvaged known.left_out known.holes.items known.fillers known.image entry
  pub as_found : entry.found ≡ is_found
  pub added : new.entries.items ≡ old.entries.items ++ entry ∷ []

-- a found entry with the fields of its header
abbrev pub IsFoundEntry : Known → Salvaged → Type 0
IsFoundEntry known entry = (entry.found ≡ true) × IsSalvaged known.left_out known.holes.items known.fillers known.image entry

-- more entries, all of them found
pub record AddsFound (known : Known) (old new : Gathered) : Type 0 where
  pub found : List Salvaged
  pub each : All (IsFoundEntry known) found
  pub added : new.entries.items ≡ old.entries.items ++ found
