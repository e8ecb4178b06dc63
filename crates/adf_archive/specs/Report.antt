-- The report on the bytes of an image.
use Rattle.std.specs.Prelude.{◌≡◌, ℕ, ◌<◌, ◌⊎◌, ◌||◌, Bool, true, false, List, length, map, All, IfSome, MatchOption, is_some, ⊤}
use Rattle.adf_block.specs.Boot.{HasKind}
use Rattle.adf_block.specs.Image.{block_count}
use Rattle.adf_block.specs.Size.{IsSizeFault}
use Rattle.ados_model.specs.Tree.{Tree, free, name_of, root}
use Rattle.ados_model.specs.Stands.{Stands}
use Rattle.ados_model.specs.Accepted.{Accepts}
use Rattle.ados_model.specs.Faults.{Shows}
use Rattle.ados_model.specs.declared.fault.FaultKind.{FaultKind}
use Rattle.ados_model.specs.declared.fault.FaultKind.TheVariants.{BadSum, MarkedFree}
use Rattle.ados_faults.specs.Listed.{AreAllFaults, AreMarks, Marks}
use Rattle.ados_faults.specs.Values.{AreValues, NoneShows}
use Rattle.adf_record.specs.Counts.{AreCounts}
use Rattle.adf_archive.specs.declared.checking.Detail.{Detail}
use Rattle.adf_archive.specs.declared.faults.TheConstants.{MOST_FAULTS}
use Rattle.adf_archive.specs.declared.report.AcceptedImage.{AcceptedImage}
use Rattle.adf_archive.specs.declared.report.Contents.{Contents}
use Rattle.adf_archive.specs.declared.report.ImageReport.{ImageReport}
use Rattle.adf_archive.specs.declared.report.ImageReport.TheVariants.{Accepted, Refused, WrongSize, NotChecked}
use Rattle.adf_archive.specs.declared.report.RefusedImage.{RefusedImage}
use Rattle.adf_archive.specs.declared.report.ShownFault.{ShownFault}
use Rattle.adf_archive.specs.declared.report.WhyNot.{WhyNot}
use Rattle.adf_archive.specs.declared.report.WhyNot.TheVariants.{BadLine}
use Rattle.adf_archive.specs.declared.suspects.Suspect.{Suspect}
use Rattle.adf_cli.specs.declared.bad_list.BadFault.TheVariants.{Line}
use Rattle.adf_archive.specs.Suspects.{AreListMarks, AreSuspects, IsListFault}

-- the contents of a tree's volume: its name, the numbers of files and directories below the root, and the free blocks
pub record Tells (t : Tree) (contents : Contents) : Type 0 where
  pub name : contents.name ≡ name_of t (root t)
  pub counts : AreCounts t contents.counts
  pub free : contents.free ≡ free t

-- suspect blocks are reported if fillers are looked for, or if there is a list of blocks that could not be read
abbrev pub wants_suspects : Detail → Bool
wants_suspects detail = detail.filler || is_some detail.bad

-- these are the suspect blocks of the volume with this checked image: data blocks that hold nothing but a filler, if that is asked, and
-- the blocks that the list names
abbrev pub AreFound : Detail → List ℕ → List ℕ → List Suspect → Type 0
AreFound detail image checked suspects =
    (marks : List Bool) × AreListMarks detail.bad (block_count image) marks
    × ((t : Tree) → Stands checked t → AreSuspects detail.filler marks checked t suspects)

-- the image is accepted, and the report describes the volume; it has the contents and the suspect blocks exactly if they are wanted
pub record IsAccepted (detail : Detail) (image : List ℕ) (told : AcceptedImage) : Type 0 where
  pub checked : List ℕ
  pub accepts : Accepts image told.validated checked
  pub kind : HasKind checked told.kind
  pub blocks : told.blocks ≡ block_count checked
  pub asked : is_some told.contents ≡ detail.contents
  pub contents : IfSome told.contents (λ contents. (t : Tree) → Stands checked t → Tells t contents)
  pub wanted : is_some told.suspects ≡ wants_suspects detail
  pub suspects : IfSome told.suspects (λ suspects. AreFound detail image checked suspects.items)

-- the values of a fault are those of the first long that shows it, by these marks; it has none only if no long does
abbrev pub HasValues : List ℕ → Marks → ShownFault → Type 0
HasValues image marks shown =
    MatchOption shown.values (NoneShows image marks shown.fault.kind shown.fault.block) (AreValues image marks shown.fault.kind shown.fault.block)

-- so it is for each fault, by the marks of the image
abbrev pub HaveValues : List ℕ → List ShownFault → Type 0
HaveValues image faults = (marks : Marks) × AreMarks image marks × All (HasValues image marks) faults

-- a block in use is marked free, or a checksum is wrong
abbrev pub IsOfMarks : FaultKind → Type 0
IsOfMarks kind = (kind ≡ MarkedFree) ⊎ (kind ≡ BadSum)

-- the image shows no other fault
abbrev pub ShowsOnlyMarks : List ℕ → Type 0
ShowsOnlyMarks image = (kind : FaultKind) (block : ℕ) → Shows image kind block → IsOfMarks kind

-- the image shows each of the faults, and there is at least one; a report says that only the bitmap is wrong only of an image
-- without faults of other kinds
pub record IsRefused (image : List ℕ) (told : RefusedImage) : Type 0 where
  pub kind : HasKind image told.kind
  pub blocks : told.blocks ≡ block_count image
  pub some : 0 < length told.faults.items
  pub shown : All (λ shown. Shows image shown.fault.kind shown.fault.block) told.faults.items
  pub values : HaveValues image told.faults.items
  pub bitmap : told.only_bitmap ≡ true → ShowsOnlyMarks image

-- a line of the list names none of the image's blocks, and that is all of them
abbrev pub IsBadLine : Detail → List ℕ → ℕ → ℕ → Type 0
IsBadLine detail image line blocks = IsListFault detail.bad blocks (Line line) × (blocks ≡ block_count image)

-- why an image was not checked: if the list is the reason, a line of it names none of the blocks; nothing else is said
abbrev pub IsUnchecked : Detail → List ℕ → WhyNot → Type 0
IsUnchecked detail image (BadLine line blocks) = IsBadLine detail image line blocks
IsUnchecked detail image why = ⊤

-- the report is the check's result for these bytes, or why there is none
abbrev pub IsReport : Detail → List ℕ → ImageReport → Type 0
IsReport detail image (Accepted told) = IsAccepted detail image told
IsReport detail image (Refused told) = IsRefused image told
IsReport detail image (WrongSize fault) = IsSizeFault (length image) fault
IsReport detail image (NotChecked why) = IsUnchecked detail image why

-- of a disk of another kind that alone is reported. Of any other each fault that it shows is reported, or the first 1,000 of them
-- and `more`, exactly if it shows more
abbrev pub IsComplete : List ℕ → ImageReport → Type 0
IsComplete image (Refused told) = AreAllFaults image MOST_FAULTS told.more (map (λ shown. shown.fault) told.faults.items)
IsComplete image report = ⊤

-- one fault is reported, and not that there are more
abbrev pub IsOfOne : ImageReport → Type 0
IsOfOne (Refused told) = (length told.faults.items ≡ 1) × (told.more ≡ false)
IsOfOne report = ⊤

-- the report is the check's result for these bytes; its faults are complete if that is wanted, else there is one
pub record IsReportFor (detail : Detail) (image : List ℕ) (report : ImageReport) : Type 0 where
  pub is : IsReport detail image report
  pub each : detail.all ≡ true → IsComplete image report
  pub one : detail.all ≡ false → IsOfOne report

-- so it is for the bytes of some file
abbrev pub IsReportOfSome : Detail → ImageReport → Type 0
IsReportOfSome detail report = (image : List ℕ) × IsReportFor detail image report
