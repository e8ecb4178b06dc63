-- Lists of names: the names in a list, and the paths of the files that they name.
use Rattle.std.specs.Prelude.{◌≡◌, ◌≢◌, ◌⊎◌, ◌==◌, ◌||◌, ℕ, Bool, true, false, not, List, ◌++◌, filter, length, codes}
use Rattle.std.specs.List.{AllZip, slice_split}
use Rattle.std.specs.Str.{IsUtf8}

-- the byte that ends a name: a zero byte, or else a line feed or a carriage return
abbrev pub ends_name : (null : Bool) → ℕ → Bool
ends_name true byte = byte == 0
ends_name false byte = (byte == 10) || (byte == 13)

-- a name has at least one byte
abbrev pub is_name : List ℕ → Bool
is_name bytes = not (length bytes == 0)

-- the names in a list: its parts between the bytes that end a name, without empty ones
abbrev pub names_in : (null : Bool) → List ℕ → List (List ℕ)
names_in null list = filter is_name (slice_split (ends_name null) list)

-- the path of a named file: the name itself, but for `-`, the file of that name in the current directory; a name that is not UTF-8 is
-- no path of the host, and has some text in its place
abbrev pub IsCalled : List ℕ → List ℕ → Type 0
IsCalled name path = (name ≡ codes "-" → path ≡ codes "./-") × (name ≢ codes "-" → (path ≡ name) ⊎ ¬ (IsUtf8 name))

-- these paths are the arguments, and then those of the named files
abbrev pub AreOwn : (words names paths : List (List ℕ)) → Type 0
AreOwn words names paths = (called : List (List ℕ)) × AllZip IsCalled names called × (paths ≡ words ++ called)
