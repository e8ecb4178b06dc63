-- The JSON object of an entry.
use Rattle.std.specs.Prelude.{◌≡◌, ℕ, negsuc, if◌then◌else◌, List, [], ◌∷◌, ◌++◌, decimal, codes}
use Rattle.std.specs.Ordering.{int_eq}
use Rattle.json.specs.Token.{Token, begin_object, end_object, key, string, number}
use Rattle.json.specs.Print.{print}
use Rattle.ados_name.specs.Date.{IsTextOf}
use Rattle.ados_model.specs.declared.answer.FileInfo.{FileInfo}
use Rattle.adf_text.specs.Letters.{letters}

-- `file` or `directory`
abbrev pub type_word : FileInfo → List ℕ
type_word info = if int_eq info.entry_type (negsuc 2) then codes "file" else codes "directory"

-- the type of an entry, its size, its blocks, its header block, and its protection bits
abbrev pub measures_tokens : FileInfo → List Token
measures_tokens info =
    key (codes "type") ∷ string (type_word info) ∷ key (codes "size") ∷ number (decimal info.size)
    ∷ key (codes "blocks") ∷ number (decimal info.blocks) ∷ key (codes "header") ∷ number (decimal info.key)
    ∷ key (codes "bits") ∷ number (decimal info.protection.0) ∷ []

-- the object of an entry, with its path and its comment in letters, and the text of its date
abbrev pub object_tokens : FileInfo → List ℕ → List ℕ → List Token
object_tokens info path date =
    begin_object ∷ key (codes "path") ∷ string path ∷ measures_tokens info
    ++ key (codes "date") ∷ string date ∷ key (codes "comment") ∷ string (letters info.comment) ∷ end_object ∷ []

-- that object and a line feed
abbrev pub object_line : FileInfo → List ℕ → List ℕ → List ℕ
object_line info path date = print (object_tokens info path date) ++ 10 ∷ []

-- the text is the line with the object of an entry with this path
abbrev pub IsObject : FileInfo → List ℕ → List ℕ → Type 0
IsObject info path text = (date : List ℕ) × IsTextOf info.date date × (text ≡ object_line info (letters path) date)
