-- The report on a damaged image as a JSON object.
use Rattle.std.specs.Prelude.{◌≡◌, ℕ, Bool, true, false, List, [], ◌∷◌, ◌++◌, codes, decimal, flat_map, length, if◌then◌else◌, Option, Some, None}
use Rattle.json.specs.Token.{Token, begin_object, end_object, begin_array, end_array, key, string, number, boolean}
use Rattle.json.specs.Print.{print}
use Rattle.adf_block.specs.Fields.{format_of}
use Rattle.adf_block.specs.declared.layout.Format.{Format}
use Rattle.adf_block.specs.declared.layout.Format.TheVariants.{Ofs, Ffs}
use Rattle.ados_salvage.specs.declared.salvaged.Salvaged.{Salvaged}
use Rattle.ados_salvage.specs.declared.salvaged.State.{State}
use Rattle.ados_salvage.specs.declared.salvaged.State.TheVariants.{Directory, DoubtfulDirectory, Whole, Doubtful, Lost, Broken}
use Rattle.ados_salvage.specs.Salvaged.{Saved, is_cut, missing_in}
use Rattle.ados_salvage.specs.Saved.{size_of}
use Rattle.ados_salvage.specs.Marks.{mark_at}
use Rattle.adf_record.specs.Members.{number_token, string_token}
use Rattle.adf_rescue.specs.declared.damaged.Rescue.{Rescue}
use Rattle.adf_rescue.specs.declared.missing.Run.{Run}
use Rattle.adf_rescue.specs.Missing.{first_byte, last_byte, values_at}
use Rattle.adf_rescue.specs.Reasons.{doubt_at, reason_by}

-- an entry is told, unless it is a sound directory that was not recovered
abbrev pub is_told : State → Bool → Bool
is_told Directory found = found
is_told state found = true

-- the state of an entry as a word; a sound directory is whole
abbrev pub state_word : State → List ℕ
state_word Directory = codes "whole"
state_word DoubtfulDirectory = codes "doubtful"
state_word Whole = codes "whole"
state_word (Doubtful header length) = codes "doubtful"
state_word Lost = codes "lost"
state_word (Broken missing cut length) = codes "broken"

-- a slash behind the path of a directory
abbrev pub path_end : State → List ℕ
path_end Directory = codes "/"
path_end DoubtfulDirectory = codes "/"
path_end state = []

-- the members for the state of an entry with this path
abbrev pub state_tokens : Bool → State → List ℕ → List Token
state_tokens found state path =
    key (codes "path") ∷ string path ∷ key (codes "state") ∷ string (state_word state)
    ∷ key (codes "found") ∷ boolean found ∷ key (codes "missing") ∷ number (decimal (missing_in state))
    ∷ key (codes "cut") ∷ boolean (is_cut state) ∷ []

-- the number of bytes of an entry that are written: of a file
abbrev pub written : List ℕ → ℕ → State → Option ℕ
written image header Directory = None
written image header DoubtfulDirectory = None
written image header Lost = None
written image header Whole = Some (size_of image header Whole)
written image header (Doubtful heading length) = Some (size_of image header (Doubtful heading length))
written image header (Broken missing cut length) = Some (size_of image header (Broken missing cut length))

-- the members for its header, its size and why it is doubtful or cut short, and whether it would be a deleted entry by a bitmap that
-- cannot be trusted
abbrev pub detail_tokens : List ℕ → ℕ → State → Option (List ℕ) → Bool → List Token
detail_tokens image header state reason deleted =
    key (codes "header") ∷ number (decimal header) ∷ key (codes "size") ∷ number_token (written image header state)
    ∷ key (codes "reason") ∷ string_token reason ∷ key (codes "deleted") ∷ boolean deleted ∷ []

-- the object of a run of missing data blocks of a file with this header: the bytes of the file in them, and their numbers
abbrev pub hole_tokens : List ℕ → ℕ → Run → List Token
hole_tokens image header run =
    begin_object ∷ key (codes "first") ∷ number (decimal (first_byte image run)) ∷ key (codes "last") ∷ number (decimal (last_byte image header run))
    ∷ key (codes "first_data") ∷ number (decimal run.first) ∷ key (codes "last_data") ∷ number (decimal run.last) ∷ end_object ∷ []

-- the member for the runs of its missing data blocks
abbrev pub holes_tokens : List ℕ → ℕ → List Run → List Token
holes_tokens image header runs = key (codes "holes") ∷ begin_array ∷ (flat_map (hole_tokens image header) runs ++ end_array ∷ [])

-- the object of an entry with this path and this reason why it is doubtful or cut short
abbrev pub entry_tokens : List ℕ → Salvaged → Option (List ℕ) → Bool → List Run → List ℕ → List Token
entry_tokens image entry reason deleted runs path =
    begin_object ∷ (state_tokens entry.found entry.state path
    ++ (detail_tokens image entry.header entry.state reason deleted ++ (holes_tokens image entry.header runs ++ end_object ∷ [])))

-- the same of the entry at a position of a rescue; `other` is the path of the entry that has a block of it too
abbrev pub object_tokens : Rescue → ℕ → Salvaged → List ℕ → List ℕ → List Token
object_tokens rescue place entry other path =
    entry_tokens rescue.salvage.image entry (reason_by other (doubt_at rescue.doubts.items place)) (mark_at rescue.untrusted.items place) (values_at rescue.missing.items place) path

-- the object of that entry at some host path, with that of some other entry in its reason, if it is told
abbrev pub IsEntryObject : Rescue → ℕ → Salvaged → List Token → Type 0
IsEntryObject rescue place entry object =
    (other : List ℕ) × (path : List ℕ) × (object ≡ (if is_told entry.state entry.found then object_tokens rescue place entry other (path ++ path_end entry.state) else []))

-- the objects of these entries, the first ones of a rescue, one after the other
pub data AreObjects (rescue : Rescue) : List Salvaged → List Token → Type 0 where
  none : AreObjects rescue [] []
  one : (entries : List Salvaged) (entry : Salvaged) (objects object : List Token) → AreObjects rescue entries objects
      → IsEntryObject rescue (length entries) entry object → AreObjects rescue (entries ++ entry ∷ []) (objects ++ object)

-- whether data blocks have checksums: in OFS alone
abbrev pub has_sums : Format → Bool
has_sums Ofs = true
has_sums Ffs = false

-- what is behind the objects of the entries: the number of deleted entries, the blocks that are used and belong to nothing
-- that is told, and whether data blocks have checksums
abbrev pub rest_tokens : ℕ → List ℕ → Bool → List Token
rest_tokens deleted unaccounted summed =
    end_array ∷ key (codes "deleted") ∷ number (decimal deleted)
    ∷ key (codes "unaccounted") ∷ begin_array ∷ (flat_map (λ block. number (decimal block) ∷ []) unaccounted ++ end_array ∷ key (codes "summed") ∷ boolean summed ∷ end_object ∷ [])

-- the object of the report
abbrev pub report_tokens : List Token → ℕ → List ℕ → Bool → List Token
report_tokens objects deleted unaccounted summed = begin_object ∷ key (codes "entries") ∷ begin_array ∷ (objects ++ rest_tokens deleted unaccounted summed)

-- whether the data blocks of the image have checksums
abbrev pub is_summed : Saved → Bool
is_summed saved = has_sums (format_of saved.image)

-- the text is the line with the object of the report
abbrev pub IsReportObject : Rescue → List ℕ → Type 0
IsReportObject rescue text =
    (objects : List Token) × AreObjects rescue rescue.salvage.entries objects
    × (text ≡ print (report_tokens objects (length rescue.salvage.deleted) rescue.unaccounted.items (is_summed rescue.salvage)) ++ codes "\n")
