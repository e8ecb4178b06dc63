-- The list of a file, or of everything below a directory.
use Rattle.std.specs.Prelude.{◌≡◌, ℕ, zero, suc, ◌-◌, ◌==◌, negsuc, Bool, true, false, if◌then◌else◌, List, [], ◌∷◌, ◌++◌, length, replicate, flat_map, decimal, codes, Some}
use Rattle.std.specs.Option.{option_map_or}
use Rattle.std.specs.Ordering.{int_eq}
use Rattle.ados_name.specs.Date.{IsTextOf}
use Rattle.ados_name.specs.Protection.{letters}
use Rattle.ados_model.specs.declared.answer.FileInfo.{FileInfo}
use Rattle.ados_model.specs.Tree.{Node, Tree, root, name_of, parent_of}
use Rattle.ados_model.specs.Change.{is_file}
use Rattle.ados_model.specs.Objects.{file_info}
use Rattle.ados_volume.specs.Located.{Located}
use Rattle.adf_script.specs.Text.{line, spaced}
use Rattle.adf_text.specs.Letters.{letters as letter_text}
use Rattle.adf_text.specs.Plain.{plain}
use Rattle.adf_text.specs.ProtectionLetters.{protection_letters}
use Rattle.adf_record.specs.Second.{to_second}
use Rattle.adf_record.specs.Shown.{bold}
use Rattle.adf_cli.specs.declared.query.ListForm.{ListForm}
use Rattle.adf_cli.specs.declared.query.ListForm.TheVariants.{Bytes, Letters, Long, Bold, Json}
use Rattle.adf_cli.specs.declared.query.ListOrder.{ListOrder}
use Rattle.adf_export.specs.Objects.{IsObject}
use Rattle.adf_export.specs.Ordered.{ordered}

-- everything below a directory, to a depth of `levels`: its entries in the order, each with the path before its name,
-- and each directly followed by everything below it
unfoldable pub below : Tree → ListOrder → ℕ → List ℕ → ℕ → List Located
below t order zero before dir = []
below t order (suc levels) before dir =
    flat_map (λ key. record { path = before ++ name_of t key; key = key } ∷ below t order levels (before ++ name_of t key ++ 47 ∷ []) key) (ordered t order dir)

-- the path before the names in a directory, of at most `depth` directories: empty for the root, else the path before
-- its own name, that name and `/`
unfoldable pub front : Tree → ℕ → ℕ → List ℕ
front t zero dir = []
front t (suc depth) dir = option_map_or (λ above. front t depth above ++ (name_of t dir ++ 47 ∷ [])) (parent_of t dir) []

-- the entries below a directory in an order; no path has more names than there are blocks
abbrev pub listing : Tree → ListOrder → ℕ → List Located
listing t order dir = below t order t.blocks (front t t.blocks dir) dir

-- the path before the name of an object, empty for the root; and the path of an object
abbrev pub front_above : Tree → ℕ → List ℕ
front_above t key = option_map_or (front t t.blocks) (parent_of t key) []

abbrev pub path_of : Tree → ℕ → List ℕ
path_of t key = front_above t key ++ name_of t key

-- the entries in the list of a file, which is itself, or of a directory, which are all below it
abbrev pub listed : Tree → ListOrder → ℕ → List Located
listed t order key = if is_file t key then record { path = path_of t key; key = key } ∷ [] else listing t order key

-- names as they are printed: their bytes, or for people the letters of these bytes, with control characters as escapes
abbrev pub shown : Bool → List ℕ → List ℕ
shown as_letters names = if as_letters then plain false (letter_text names) else names

-- the size of a file as a number, or `dir`
abbrev pub size_text : FileInfo → List ℕ
size_text info = if int_eq info.entry_type (negsuc 2) then decimal info.size else codes "dir"

-- a text right-aligned in this many places
abbrev pub right_in : ℕ → List ℕ → List ℕ
right_in places text = replicate (places - length text) 32 ++ text

-- the text is the line of an entry: its size, protection bits, date and path
abbrev pub IsLine : FileInfo → List ℕ → List ℕ → Type 0
IsLine info path text =
    (date : List ℕ) × IsTextOf info.date date
    × (text ≡ line (right_in 8 (size_text info) ++ spaced (letters info.protection.0) ++ spaced date ++ spaced path))

-- a space and a comment in quotes, if there is one
abbrev pub comment_text : List ℕ → List ℕ
comment_text comment = if length comment == 0 then [] else codes " \"" ++ shown true comment ++ codes "\""

-- the path of an entry in letters; with `styled` that of a directory is bold, and that of a file is not
abbrev pub styled_path : Bool → FileInfo → List ℕ → List ℕ
styled_path styled info path = bold (if int_eq info.entry_type (negsuc 2) then false else styled) (shown true path)

-- the text is the long line of an entry: its size, all eight protection bits, its date without hundredths, its path, and
-- its comment; with `styled` the path of a directory is bold
abbrev pub IsLongLine : Bool → FileInfo → List ℕ → List ℕ → Type 0
IsLongLine styled info path text =
    (date : List ℕ) × IsTextOf info.date date
    × (text ≡ line (right_in 8 (size_text info) ++ spaced (protection_letters info.protection.0) ++ spaced (to_second date)
    ++ spaced (styled_path styled info path) ++ comment_text info.comment))

-- the text is that of an entry with this path, in this form
abbrev pub IsEntry : ListForm → FileInfo → List ℕ → List ℕ → Type 0
IsEntry Bytes info path text = IsLine info (shown false path) text
IsEntry Letters info path text = IsLine info (shown true path) text
IsEntry Long info path text = IsLongLine false info path text
IsEntry Bold info path text = IsLongLine true info path text
IsEntry Json info path text = IsObject info path text

-- the text is those of the entries, one after the other
abbrev pub AreEntries : Tree → ListForm → List Located → List ℕ → Type 0
AreEntries t form [] text = text ≡ []
AreEntries t form (entry ∷ rest) text =
    (node : Node) × (t.nodes entry.key ≡ Some node)
    × (first : List ℕ) × (later : List ℕ)
    × IsEntry form (file_info t.format entry.key node) entry.path first × AreEntries t form rest later × (text ≡ first ++ later)

-- the line for the volume
abbrev pub volume_line : Tree → Bool → List ℕ
volume_line t as_letters = line (codes "Volume " ++ shown as_letters (name_of t (root t)))

-- the text before the entries: the volume's line; there is none before JSON objects
abbrev pub head : Tree → ListForm → List ℕ
head t Bytes = volume_line t false
head t Letters = volume_line t true
head t Long = volume_line t true
head t Bold = volume_line t true
head t Json = []

-- a list of these entries; and the beginning of one, with the first entries
abbrev pub IsListing : Tree → List Located → ListForm → List ℕ → Type 0
IsListing t entries form text = (told : List ℕ) × AreEntries t form entries told × (text ≡ head t form ++ told)

abbrev pub BeginsListing : Tree → List Located → ListForm → List ℕ → Type 0
BeginsListing t entries form text =
    (first : List Located) × (rest : List Located) × (told : List ℕ)
    × (entries ≡ first ++ rest) × AreEntries t form first told × (text ≡ head t form ++ told)

-- the list of a file or directory in an order, and the beginning of one
abbrev pub IsList : Tree → ListOrder → ℕ → ListForm → List ℕ → Type 0
IsList t order key = IsListing t (listed t order key)

abbrev pub BeginsList : Tree → ListOrder → ℕ → ListForm → List ℕ → Type 0
BeginsList t order key = BeginsListing t (listed t order key)
