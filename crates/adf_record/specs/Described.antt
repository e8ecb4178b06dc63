-- The description of a volume, which is the text of its bundle: a JSON object in lines, one for each entry.
use Rattle.std.specs.Prelude.{◌≡◌, ◌≢◌, ◌+◌, ◌<◌, ◌≤◌, ℕ, List, [], ◌∷◌, ◌++◌, All, codes, decimal, flat_map, length, take, slice_get, Option, Some, None}
use Rattle.std.specs.List.{AllZip}
use Rattle.hex.specs.Hex.{encode_lower}
use Rattle.json.specs.Token.{Token, begin_object, end_object, begin_array, key, number, string}
use Rattle.json.specs.Print.{print}
use Rattle.ados_name.specs.Date.{IsTextOf}
use Rattle.adf_text.specs.Letters.{letters}
use Rattle.adf_record.specs.declared.bundle.Bundle.{Bundle}
use Rattle.adf_record.specs.declared.bundle.BundleEntry.{BundleEntry}
use Rattle.adf_record.specs.declared.bundle.BundleHead.{BundleHead}
use Rattle.adf_record.specs.declared.bundle_fault.BundleFault.{BundleFault}
use Rattle.adf_record.specs.declared.bundle_fault.BundleWhy.TheVariants.{Long, Memory, NoDirectory}
use Rattle.adf_record.specs.declared.bundle_lines.TheConstants.{MOST_BUNDLE_BYTES}
use Rattle.adf_record.specs.Shown.{format_word}

-- these bytes without the zeros at their end
pub record AreWithoutZeros (bytes kept : List ℕ) : Type 0 where
  pub zeros : List ℕ
  pub whole : bytes ≡ kept ++ zeros
  pub only : All (λ b. b ≡ 0) zeros
  pub last : (front : List ℕ) → kept ≢ front ++ 0 ∷ []

-- the path of an entry: its name, after the path of its directory and `/`
pub data IsPathOf (entries : List BundleEntry) : BundleEntry → List ℕ → Type 0 where
  top : {entry : BundleEntry} → entry.above ≡ None → IsPathOf entries entry entry.name
  inner : {entry directory : BundleEntry} {place : ℕ} {path : List ℕ}
      → entry.above ≡ Some place → slice_get entries place ≡ Some directory → IsPathOf entries directory path
      → IsPathOf entries entry (path ++ codes "/" ++ entry.name)

-- what is told of the volume: its kind, blocks and label, three dates, and the boot block as hexadecimal digits. The list of
-- entries begins
abbrev pub head_tokens : BundleHead → List ℕ → List ℕ → List ℕ → List ℕ → List Token
head_tokens head created changed root boot =
    begin_object ∷ key (codes "kind") ∷ string (format_word head.format) ∷ key (codes "blocks") ∷ number (decimal head.blocks)
    ∷ key (codes "label") ∷ string (letters head.label) ∷ key (codes "created") ∷ string created ∷ key (codes "changed") ∷ string changed
    ∷ key (codes "root") ∷ string root ∷ key (codes "boot") ∷ string (encode_lower boot) ∷ key (codes "entries") ∷ begin_array ∷ []

-- a file and its size, or a directory
abbrev pub size_tokens : Option ℕ → List Token
size_tokens (Some size) = key (codes "type") ∷ string (codes "file") ∷ key (codes "size") ∷ number (decimal size) ∷ []
size_tokens None = key (codes "type") ∷ string (codes "directory") ∷ []

-- the object of an entry: its path, type, size, 32 protection bits, date and comment
abbrev pub entry_tokens : BundleEntry → List ℕ → List ℕ → List Token
entry_tokens entry path date =
    begin_object ∷ key (codes "path") ∷ string (letters path) ∷ size_tokens entry.size
    ++ key (codes "bits") ∷ number (decimal entry.protection.0) ∷ key (codes "date") ∷ string date
    ∷ key (codes "comment") ∷ string (letters entry.comment) ∷ end_object ∷ []

-- the first line, up to the list of entries
abbrev pub IsHeadLine : Bundle → List ℕ → Type 0
IsHeadLine bundle line =
    (created : List ℕ) × (changed : List ℕ) × (root : List ℕ) × (boot : List ℕ)
    × IsTextOf bundle.head.created created × IsTextOf bundle.head.changed changed × IsTextOf bundle.head.root_date root
    × AreWithoutZeros bundle.boot.items boot × (line ≡ print (head_tokens bundle.head created changed root boot))

-- the line of an entry
abbrev pub IsEntryLine : List BundleEntry → BundleEntry → List ℕ → Type 0
IsEntryLine entries entry line =
    (path : List ℕ) × (date : List ℕ) × IsPathOf entries entry path × IsTextOf entry.date date × (line ≡ print (entry_tokens entry path date))

-- lines of their own, with commas between them
abbrev pub in_lines : List (List ℕ) → List ℕ
in_lines [] = []
in_lines (line ∷ lines) = codes "\n" ++ line ++ flat_map (λ other. codes ",\n" ++ other) lines

-- the text as far as the first n entries: the line of the volume, and one for each of them
pub record IsTextTo (bundle : Bundle) (n : ℕ) (text : List ℕ) : Type 0 where
  pub head : List ℕ
  pub head_is : IsHeadLine bundle head
  pub lines : List (List ℕ)
  pub lines_are : AllZip (IsEntryLine bundle.entries.items) (take n bundle.entries.items) lines
  pub whole : text ≡ head ++ in_lines lines

-- the text of a bundle: the line of the volume, one for each entry, and the end of the list and of the object
abbrev pub IsBundleText : Bundle → List ℕ → Type 0
IsBundleText bundle text = (front : List ℕ) × IsTextTo bundle (length bundle.entries.items) front × (text ≡ front ++ codes "\n]}\n")

-- the directory of an entry is not one of the first n entries
abbrev pub HasNoDirectory : ℕ → BundleEntry → Type 0
HasNoDirectory n entry = (place : ℕ) × (entry.above ≡ Some place) × (n ≤ place)

-- an entry is told whose directory is not before it
pub record LacksDirectory (entries : List BundleEntry) (fault : BundleFault) : Type 0 where
  pub place : ℕ
  pub entry : BundleEntry
  pub there : slice_get entries place ≡ Some entry
  pub missing : HasNoDirectory place entry
  pub told : fault ≡ record { entry = Some (place + 1); why = NoDirectory }

abbrev pub no_memory : BundleFault
no_memory = record { entry = None; why = Memory }

abbrev pub too_long : BundleFault
too_long = record { entry = None; why = Long }

-- why a bundle has no text: memory ran out, the text would be longer than a description may be, or the directory of an entry is
-- not before it
pub data IsTextFault (bundle : Bundle) : BundleFault → Type 0 where
  memory : IsTextFault bundle no_memory
  long : {n : ℕ} {front : List ℕ} → IsTextTo bundle n front → MOST_BUNDLE_BYTES < length (front ++ codes "\n]}\n") → IsTextFault bundle too_long
  no_directory : {fault : BundleFault} → LacksDirectory bundle.entries.items fault → IsTextFault bundle fault
