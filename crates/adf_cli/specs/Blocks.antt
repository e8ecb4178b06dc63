-- Arguments that name blocks.
use Rattle.std.specs.Prelude.{◌≡◌, ◌≢◌, ℕ, ◌+◌, ◌*◌, ◌<◌, ◌^◌, ◌==◌, ◌&&◌, nat_lt, if◌then◌else◌, List, ◌++◌, Any, Option, Some, None, codes, decimal, ⊤}
use Rattle.adf_cli.specs.Given.{TellsOf}
use Rattle.adf_cli.specs.declared.block_word.BlockWord.{BlockWord}
use Rattle.adf_cli.specs.declared.block_word.BlockWord.TheVariants.{Number, Sector}
use Rattle.adf_cli.specs.declared.fault.WordsFault.{WordsFault}
use Rattle.adf_cli.specs.declared.floppy.TheConstants.{DOUBLE_TRACK, HEADS, HIGH_DENSITY, HIGH_TRACK}

-- the argument for a block: its number, or `c` and its cylinder, `.h` and its head, `.s` and its sector
abbrev pub block_text : BlockWord → List ℕ
block_text (Number number) = decimal number
block_text (Sector cylinder head sector) =
    codes "c" ++ (decimal cylinder ++ (codes ".h" ++ (decimal head ++ (codes ".s" ++ decimal sector))))

-- some floppy has such a block: a drive has two heads, and no track has more than 22 sectors
abbrev pub IsOnFloppy : BlockWord → Type 0
IsOnFloppy (Number number) = ⊤
IsOnFloppy (Sector cylinder head sector) = (head < HEADS) × (sector < HIGH_TRACK)

-- the numbers of a block have 32 bits
abbrev pub HasLongs : BlockWord → Type 0
HasLongs (Number number) = number < 2 ^ 32
HasLongs (Sector cylinder head sector) = (cylinder < 2 ^ 32) × (head < 2 ^ 32) × (sector < 2 ^ 32)

-- the argument names this block
abbrev pub IsNamed : List ℕ → BlockWord → Type 0
IsNamed word block = (block_text block ≡ word) × IsOnFloppy block

-- the argument names no block
abbrev pub NamesNone : List ℕ → Type 0
NamesNone word = (block : BlockWord) → HasLongs block → IsOnFloppy block → word ≢ block_text block

-- the sectors in a track of a disk with so many blocks
abbrev pub track : ℕ → ℕ
track blocks = if blocks == HIGH_DENSITY then HIGH_TRACK else DOUBLE_TRACK

-- the number of a block, if a volume with so many blocks has it
abbrev pub inside : ℕ → ℕ → Option ℕ
inside blocks block = if nat_lt block blocks then Some block else None

-- the block that an argument names in a volume with so many blocks: tracks follow one another, that of head 0 before that
-- of head 1, and cylinder after cylinder
abbrev pub named : ℕ → BlockWord → Option ℕ
named blocks (Number block) = inside blocks block
named blocks (Sector cylinder head sector) =
    if nat_lt head HEADS && nat_lt sector (track blocks) then inside blocks (track blocks * (HEADS * cylinder + head) + sector) else None

-- a wrong command line is reported only if the argument names no block
abbrev pub TellsNoBlock : List ℕ → WordsFault → Type 0
TellsNoBlock word = TellsOf (NamesNone word)

-- a wrong command line is reported only if one of the arguments names no block
abbrev pub TellsNoBlocks : List (List ℕ) → WordsFault → Type 0
TellsNoBlocks words = TellsOf (Any NamesNone words)
