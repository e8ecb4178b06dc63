-- The report on a damaged image after everything that can be trusted was written.
use Rattle.std.specs.Prelude.{◌≡◌, ◌<◌, ℕ, Bool, true, false, List, [], ◌∷◌, ◌++◌, ◌==◌, codes, flat_map, decimal, length, if◌then◌else◌, ⊤}
use Rattle.ados_salvage.specs.Holes.{SalvagesBeside}
use Rattle.ados_salvage.specs.Salvaged.{Saved}
use Rattle.ados_salvage.specs.declared.salvaged.Salvaged.{Salvaged}
use Rattle.ados_salvage.specs.declared.salvaged.State.{State}
use Rattle.ados_salvage.specs.declared.salvaged.State.TheVariants.{Directory, DoubtfulDirectory, Whole, Doubtful, Lost, Broken}
use Rattle.ados_salvage.specs.Saved.{HasBytes, IsAt}
use Rattle.ados_salvage.specs.Account.{AreUnaccounted}
use Rattle.adf_rescue.specs.Missing.{AreMissing}
use Rattle.adf_rescue.specs.Paths.{ArePathsApart, files_from}
use Rattle.adf_rescue.specs.Reasons.{AreDoubts}
use Rattle.adf_rescue.specs.RescueObject.{IsReportObject}
use Rattle.adf_rescue.specs.Undelete.{file_in}
use Rattle.adf_rescue.specs.Untrusted.{AreMarked}
use Rattle.adf_rescue.specs.declared.sourced.Source.{Source}
use Rattle.adf_rescue.specs.declared.sourced.Source.TheVariants.{File}
use Rattle.adf_rescue.specs.declared.damaged.Rescue.{Rescue}
use Rattle.adf_rescue.specs.declared.damaged.RescueFault.{RescueFault}
use Rattle.adf_rescue.specs.declared.damaged.RescueFault.TheVariants.{Host, Memory}

-- `found ` for a recovered entry
abbrev pub found_word : Bool → List ℕ
found_word found = if found then codes "found " else []

-- the line of an entry; a sound directory that was not recovered has none
abbrev pub rescue_line : Bool → State → List ℕ → List ℕ
rescue_line true Directory path = codes "found " ++ path ++ codes "\n"
rescue_line false Directory path = []
rescue_line found DoubtfulDirectory path = found_word found ++ codes "doubtful " ++ path ++ codes "/\n"
rescue_line found Lost path = found_word found ++ codes "lost " ++ path ++ codes "\n"
rescue_line found Whole path = found_word found ++ codes "whole " ++ path ++ codes "\n"
rescue_line found (Doubtful header length) path = found_word found ++ codes "doubtful " ++ path ++ codes "\n"
rescue_line found (Broken missing cut length) path = found_word found ++ codes "broken " ++ decimal missing ++ codes " " ++ path ++ codes "\n"

-- the line of an entry at some host path
abbrev pub IsRescueLine : Bool → State → List ℕ → Type 0
IsRescueLine found state line = (path : List ℕ) × (line ≡ rescue_line found state path)

-- the text has the lines of these entries, one after the other
pub data AreLines : List Salvaged → List ℕ → Type 0 where
  none : AreLines [] []
  one : (entries : List Salvaged) (entry : Salvaged) (text line : List ℕ) → AreLines entries text → IsRescueLine entry.found entry.state line
      → AreLines (entries ++ entry ∷ []) (text ++ line)

-- the line of things that have no lines of their own: what they are, and how many; none if there are none
abbrev pub count_line : List ℕ → ℕ → List ℕ
count_line word count = if count == 0 then [] else word ++ codes " " ++ decimal count ++ codes "\n"

-- the line of the deleted entries, which are left out
abbrev pub deleted_count_line : ℕ → List ℕ
deleted_count_line count = count_line (codes "deleted") count

-- the line of the blocks that are used and belong to nothing that is told
abbrev pub unaccounted_count_line : ℕ → List ℕ
unaccounted_count_line count = count_line (codes "unaccounted") count

-- the text has the lines of all entries, then that of so many deleted ones and that of these blocks
abbrev pub AreReportLines : List Salvaged → ℕ → List ℕ → List ℕ → Type 0
AreReportLines entries deleted unaccounted text =
    (lines : List ℕ) × AreLines entries lines × (text ≡ lines ++ (deleted_count_line deleted ++ unaccounted_count_line (length unaccounted)))

-- the report on what was saved and on the blocks that are used and belong to nothing of it: as lines, or with `json` as an object
abbrev pub IsTold : Bool → Rescue → List ℕ → Type 0
IsTold false rescue text = AreReportLines rescue.salvage.entries (length rescue.salvage.deleted) rescue.unaccounted.items text
IsTold true rescue text = IsReportObject rescue text

-- that report, and the image was accepted or not
pub record AreRescued (json : Bool) (rescue : Rescue) (accepted : Bool) (text : List ℕ) : Type 0 where
  pub accepts : rescue.salvage.accepted ≡ accepted
  pub told : IsTold json rescue text

abbrev pub AreSomeRescued : Bool → Rescue → List ℕ → Type 0
AreSomeRescued json rescue text = (accepted : Bool) × AreRescued json rescue accepted text

-- everything in an image with these holes, from a list of unread blocks or not, that can be trusted, and the blocks that are used and belong to nothing of it; of each entry why
-- it is doubtful or cut short, its missing data blocks, and whether it would be a deleted one by a bitmap that cannot be trusted. Each file
-- is written, once, and no two files, directories or notes to one path
pub record IsRescue (holes : List Bool) (listed : Bool) (image : List ℕ) (rescue : Rescue) : Type 0 where
  pub salvaged : SalvagesBeside holes listed image rescue.salvage
  pub unaccounted : AreUnaccounted rescue.salvage rescue.unaccounted.items
  pub doubts : AreDoubts rescue.salvage rescue.doubts.items
  pub missing : AreMissing rescue.salvage rescue.missing.items
  pub untrusted : AreMarked rescue.salvage rescue.untrusted.items
  pub paths : ArePathsApart rescue.plan.out.items.items
  pub files : flat_map file_in rescue.plan.out.sources.items ≡ files_from 0 rescue.salvage.entries

-- the report on everything in an image with these holes that can be trusted and on the other used blocks, as lines or as an object; the
-- image was accepted or not
pub record IsReport (json : Bool) (holes : List Bool) (listed : Bool) (image : List ℕ) (accepted : Bool) (text : List ℕ) : Type 0 where
  pub rescue : Rescue
  pub rescued : IsRescue holes listed image rescue
  pub told : AreRescued json rescue accepted text

-- these are the bytes of an item: of a file, those of its entry
abbrev pub HasSource : Saved → Source → List ℕ → Type 0
HasSource saved (File position) bytes =
    position < length saved.entries → (entry : Salvaged) → IsAt saved.entries position entry → HasBytes saved.image saved.given position entry.header entry.state bytes
HasSource saved source bytes = ⊤

-- why there is no report: memory ran out, or the host files cannot be written; an image that is only listed writes none
abbrev pub IsRescueFault : Bool → RescueFault → Type 0
IsRescueFault list Memory = ⊤
IsRescueFault false (Host fault) = ⊤
IsRescueFault true (Host fault) = ⊥
