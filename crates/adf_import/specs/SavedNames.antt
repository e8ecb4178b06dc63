-- Names and comments of the entries of a salvage in a new volume.
use Rattle.std.specs.Prelude.{ℕ, ◌+◌, ◌-◌, ◌==◌, ◌||◌, nat_lt, min, Bool, true, false, if◌then◌else◌, List, [], ◌++◌, codes, decimal, drop, length, take}
use Rattle.ados_salvage.specs.Salvaged.{ended}
use Rattle.ados_salvage.specs.declared.salvaged.HeaderState.{HeaderState}
use Rattle.ados_salvage.specs.declared.salvaged.HeaderState.TheVariants as heads
use Rattle.ados_salvage.specs.declared.salvaged.Salvaged.{Salvaged}
use Rattle.ados_salvage.specs.declared.salvaged.State.{State}
use Rattle.ados_salvage.specs.declared.salvaged.State.TheVariants as states

-- the name of an entry in its directory with its endings
abbrev pub own_name : Salvaged → List ℕ
own_name entry = ended entry.name entry.header entry.endings

-- its endings alone, of which no more than 30 bytes stay
abbrev pub own_ending : Salvaged → List ℕ
own_ending entry = take 30 (drop (length entry.name) (own_name entry))

-- the name in the new volume: a name has at most 30 bytes, so bytes before the endings are cut
abbrev pub name_for : Salvaged → List ℕ
name_for entry = take (min (length entry.name) (30 - length (own_ending entry))) entry.name ++ own_ending entry

-- a sound directory, or a whole file
abbrev pub is_whole : State → Bool
is_whole states.Directory = true
is_whole states.Whole = true
is_whole state = false

-- why a header is doubtful
abbrev pub doubtful_header : List ℕ
doubtful_header = codes "doubtful: its header has a wrong checksum or too long a comment"

-- why a file of which no block is missing is doubtful
abbrev pub doubt_of : HeaderState → List ℕ
doubt_of heads.Sound = codes "doubtful: a block has a wrong checksum or field, or is in another file too"
doubt_of heads.Doubtful = doubtful_header
doubt_of heads.Gone = codes "doubtful: its header is gone, and it is made of the blocks that name it"

-- how much of a broken file is missing
abbrev pub broken_text : ℕ → Bool → List ℕ
broken_text missing cut = codes "broken, data blocks missing: " ++ decimal missing ++ (if cut then codes ", and cut short" else [])

-- why an entry is not whole
abbrev pub why_of : State → List ℕ
why_of states.DoubtfulDirectory = doubtful_header
why_of (states.Doubtful header length) = doubt_of header
why_of (states.Broken missing cut length) = broken_text missing cut
why_of state = []

-- a reason, and behind it a comment if there is one, where both have at most 79 bytes together
abbrev pub joined : List ℕ → List ℕ → List ℕ
joined why old = if (length old == 0) || nat_lt (79 - (length why + 2)) (length old) then why else why ++ codes "; " ++ old

-- the comment in the new volume: of what is whole its own
abbrev pub comment_for : State → List ℕ → List ℕ
comment_for state old = if is_whole state then old else joined (why_of state) old
