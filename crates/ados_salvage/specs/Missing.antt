-- The missing blocks of files that are not whole.
use Rattle.std.specs.Prelude.{◌≡◌, ℕ, ◌==◌, ◌&&◌, min, not, Bool, List, count_by, ⊤}
use Rattle.std.specs.List.{list_any, range_with_len}
use Rattle.adf_block.specs.Image.{block_count}
use Rattle.ados_salvage.specs.Sound.{data_needed}
use Rattle.ados_salvage.specs.declared.giving.Piece.{Piece}
use Rattle.ados_salvage.specs.declared.salvaged.State.{State}
use Rattle.ados_salvage.specs.declared.salvaged.State.TheVariants as states

-- the number of data blocks that the size of a file needs; at most as many as the volume has
abbrev pub wanted_blocks : List ℕ → ℕ → ℕ
wanted_blocks image file = min (data_needed image file) (block_count image)

-- data block i of the entry at this position is there: a block was given to the entry for it
abbrev pub has_piece : List Piece → ℕ → ℕ → Bool
has_piece given place i = list_any (λ piece. (piece.place == place) && (piece.at == i)) given

-- how many of the first data blocks of an entry are not there
unfoldable pub missing_below : List Piece → ℕ → ℕ → ℕ
missing_below given place n = count_by (λ i. not (has_piece given place i)) (range_with_len 0 n)

-- the number of missing blocks of a file: the data blocks that its size needs, and that are not there
abbrev pub missing_blocks : List ℕ → List Piece → ℕ → ℕ → ℕ
missing_blocks image given place file = missing_below given place (wanted_blocks image file)

-- the state of an entry at this position says how many blocks of its file are missing: of a doubtful one, none
abbrev pub TellsMissing : List ℕ → List Piece → ℕ → ℕ → State → Type 0
TellsMissing image given place file (states.Doubtful heading length) = missing_blocks image given place file ≡ 0
TellsMissing image given place file (states.Broken missing cut length) = missing_blocks image given place file ≡ missing
TellsMissing image given place file state = ⊤
