-- What programs write where they have no bytes of the disk.
use Rattle.std.specs.Prelude.{◌≡◌, ℕ, ◌+◌, ◌<◌, ◌%◌, List, [], ◌∷◌, length, slice_index, codes}
use Rattle.adf_block.specs.Fields.{format_of}
use Rattle.adf_block.specs.Image.{bytes_at}
use Rattle.ados_model.specs.Tree.{data_size, data_start}
use Rattle.ados_census.specs.declared.filler.Filler.{Filler}
use Rattle.ados_census.specs.declared.filler.Filler.TheVariants.{Greaseweazle, PcFormat}

-- the text of each filler; 246 is F6
abbrev pub filler_text : Filler → List ℕ
filler_text Greaseweazle = codes "-=[BAD SECTOR]=-"
filler_text PcFormat = 246 ∷ []

-- the bytes are this text, again and again, from byte `start` of it on
abbrev pub RepeatsFrom : List ℕ → List ℕ → ℕ → Type 0
RepeatsFrom text bytes start = (i : ℕ) → i < length bytes → slice_index bytes i ≡ slice_index text ((start + i) % length text)

-- the bytes are this text, again and again, from some byte of it on
abbrev pub Repeats : List ℕ → List ℕ → Type 0
Repeats text bytes = (start : ℕ) × (start < length text) × RepeatsFrom text bytes start

-- the bytes are a known filler from end to end
abbrev pub IsFiller : List ℕ → Type 0
IsFiller bytes = (filler : Filler) × Repeats (filler_text filler) bytes

-- the bytes for a file in a block, as many as fit: 488 in OFS, 512 in FFS
abbrev pub data_bytes : List ℕ → ℕ → List ℕ
data_bytes image block = bytes_at image block (data_start (format_of image)) (data_size (format_of image))

-- these are a known filler from end to end
abbrev pub HoldsFiller : List ℕ → ℕ → Type 0
HoldsFiller image block = IsFiller (data_bytes image block)
