-- The facts of a volume as text for people.
use Rattle.std.specs.Prelude.{◌≡◌, ℕ, ◌/◌, ◌%◌, ◌==◌, nat_lt, Bool, true, false, if◌then◌else◌, List, [], ◌∷◌, ◌++◌, codes, decimal}
use Rattle.adf_block.specs.declared.layout.Format.{Format}
use Rattle.adf_block.specs.declared.layout.Format.TheVariants.{Ofs, Ffs}
use Rattle.ados_name.specs.declared.stamp.Date3.{Date3}
use Rattle.adf_block.specs.BootText.{code_line}
use Rattle.adf_text.specs.Letters.{letters}
use Rattle.adf_text.specs.Plain.{plain}
use Rattle.adf_record.specs.declared.facts.Facts.{Facts}
use Rattle.adf_record.specs.declared.lost.LostBlocks.{LostBlocks}
use Rattle.adf_record.specs.Second.{IsSecondOf}

-- a number with a comma before its last three digits, if it has more than three
abbrev pub grouped : ℕ → List ℕ
grouped n =
    if nat_lt n 1000 then decimal n
    else decimal (n / 1000) ++ codes "," ++ decimal (n / 100 % 10) ++ decimal (n / 10 % 10) ++ decimal (n % 10)

-- a number, and the word for one or for more
abbrev pub counted : ℕ → List ℕ → List ℕ → List ℕ
counted n one more = grouped n ++ codes " " ++ (if n == 1 then one else more)

-- a text in bold letters, or as it is
abbrev pub bold : Bool → List ℕ → List ℕ
bold true text = 27 ∷ codes "[1m" ++ text ++ 27 ∷ codes "[0m"
bold false text = text

-- a label in letters, with control characters as escapes
abbrev pub label_text : Bool → List ℕ → List ℕ
label_text styled label = bold styled (plain false (letters label))

-- the word for a format
abbrev pub format_word : Format → List ℕ
format_word Ofs = codes "OFS"
format_word Ffs = codes "FFS"

-- a floppy of double or of high density; other sizes have no word
abbrev pub density_words : ℕ → List ℕ
density_words blocks = if blocks == 1760 then codes ", double density" else if blocks == 3520 then codes ", high density" else []

-- the density and the number of blocks, after the format
abbrev pub size_words : ℕ → List ℕ
size_words blocks = density_words blocks ++ codes ", " ++ grouped blocks ++ codes " blocks"

-- whether the bitmap was valid
abbrev pub bitmap_words : Bool → List ℕ
bitmap_words true = codes "bitmap not valid (rebuilt in memory)"
bitmap_words false = codes "bitmap valid"

-- the line for the volume after its label
abbrev pub volume_words : Facts → List ℕ
volume_words facts = codes "   " ++ format_word facts.format ++ size_words facts.blocks ++ codes ", " ++ bitmap_words facts.rebuilt ++ codes "\n"

-- the line for what is in the volume; two blocks are a KB, and half a KB is left out
abbrev pub contents_line : Facts → List ℕ
contents_line facts =
    counted facts.counts.files (codes "file") (codes "files") ++ codes ", "
    ++ counted facts.counts.directories (codes "directory") (codes "directories") ++ codes ", "
    ++ grouped (facts.used / 2) ++ codes " KB used, " ++ grouped (facts.free / 2) ++ codes " KB free\n"

-- a number of directories
abbrev pub directory_words : ℕ → List ℕ
directory_words n = counted n (codes "directory") (codes "directories")

-- the directories among the lost blocks, behind a number of files; nothing if there are none
abbrev pub and_directories : ℕ → List ℕ
and_directories n = if n == 0 then [] else codes " and " ++ directory_words n

-- the directories among the lost blocks, without files
abbrev pub lost_directories : ℕ → List ℕ
lost_directories n = if n == 0 then [] else codes ", " ++ directory_words n ++ codes " among them"

-- the files and the directories among the lost blocks, as far as there are some
abbrev pub lost_headers : ℕ → ℕ → List ℕ
lost_headers files directories =
    if files == 0 then lost_directories directories
    else codes ", " ++ counted files (codes "file") (codes "files") ++ and_directories directories ++ codes " among them"

-- the line for the lost blocks and the headers among them; there is none if no block is lost
abbrev pub lost_line : LostBlocks → List ℕ
lost_line lost =
    if lost.blocks == 0 then []
    else counted lost.blocks (codes "lost block") (codes "lost blocks") ++ lost_headers lost.files lost.directories ++ codes "\n"

-- the line with both dates
abbrev pub dates_line : List ℕ → List ℕ → List ℕ
dates_line created changed = codes "created " ++ created ++ codes ", changed " ++ changed ++ codes "\n"

-- that line is appended
abbrev pub PushesDates : List ℕ → List ℕ → Date3 → Date3 → Type 0
PushesDates old new created changed =
    (first : List ℕ) × (last : List ℕ) × IsSecondOf created first × IsSecondOf changed last × (new ≡ old ++ dates_line first last)

-- the text is that of these facts: the line of the volume, of its contents, of its lost blocks, of its dates and of its boot block
abbrev pub IsFactsText : Bool → Facts → List ℕ → Type 0
IsFactsText styled facts text =
    (created : List ℕ) × (changed : List ℕ) × IsSecondOf facts.created created × IsSecondOf facts.changed changed
    × (text ≡ label_text styled facts.label ++ volume_words facts ++ contents_line facts ++ lost_line facts.lost ++ dates_line created changed ++ code_line facts.boot)
