-- The output of a command for many images, and how it ends.
use Rattle.std.specs.Prelude.{◌≡◌, ℕ, ◌≤◌, ◌<◌, Bool, true, false, List, length, map, All, Option, option_map, is_some, Result, Err}
use denote.Param.Members.{Shared}
use Rattle.std.specs.Io.KnownBytes.{Appends, Keeps}
use Rattle.adf_io.specs.Prefix.{WritesFront}
use Rattle.adf_cli.specs.declared.query.CheckJob.{CheckJob}
use Rattle.adf_archive.specs.declared.checking.Detail.{Detail}
use Rattle.adf_archive.specs.declared.fault.ArchiveFault.{ArchiveFault}
use Rattle.adf_archive.specs.declared.fault.ArchiveFault.TheVariants.{OneImage, Output, Memory}
use Rattle.adf_archive.specs.declared.report.ImageReport.{ImageReport}
use Rattle.adf_archive.specs.declared.telling.Form.{Form}
use Rattle.adf_archive.specs.declared.telling.Tally.{Tally}
use Rattle.adf_archive.specs.Each.{GivesFrom}
use Rattle.adf_archive.specs.Lines.{told_from}
use Rattle.adf_archive.specs.NameLists.{AreOwn}
use Rattle.adf_archive.specs.Report.{IsReportOfSome}
use Rattle.adf_archive.specs.Status.{IsTally, ends_over}

-- the reports on all these images were written, each made by the function for its position, and this is their status
abbrev pub TellsAll : {F : Type 0} → Shared F (ℕ × Unit {0}) ImageReport → F → Form → List (List ℕ) → Option (List ℕ) → Option (List ℕ) → Tally → Type 0
TellsAll g f form paths old new tally =
    (reports : List ImageReport) × GivesFrom g f 0 (length paths) reports × Appends old new (told_from form paths 0 reports) × IsTally reports tally

-- a prefix of that was written, for this many images
abbrev pub LeavesOff : {F : Type 0} → Shared F (ℕ × Unit {0}) ImageReport → F → Form → List (List ℕ) → Option (List ℕ) → Option (List ℕ) → Type 0
LeavesOff g f form paths old new =
    (count : ℕ) × (reports : List ImageReport) × (count ≤ length paths) × GivesFrom g f 0 count reports × WritesFront old new (told_from form paths 0 reports)

-- what a command reports: with `--all` all faults, with `--filler` the blocks that hold a filler, with these bytes of a list the blocks
-- that it names, with `--json` the contents of the volume and the paths of faults
pub record IsDetailOf (job : CheckJob) (list : Option (List ℕ)) (detail : Detail) : Type 0 where
  pub all : detail.all ≡ job.all
  pub filler : detail.filler ≡ job.filler
  pub bad : option_map (λ bytes. bytes.now) detail.bad ≡ list
  pub contents : detail.contents ≡ job.json

-- the reports on the images of the arguments, and then of the files that a list names, beside the bytes of a list of blocks: their paths,
-- the form, and the report on each, which is the check's result for the bytes of its file
pub record Archive (job : CheckJob) (names : List (List ℕ)) (list : Option (List ℕ)) : Type 0 where
  pub paths : List (List ℕ)
  pub reports : List ImageReport
  pub form : Form
  pub within : length reports ≤ length paths
  pub detail : Detail
  pub wanted : IsDetailOf job list detail
  pub checked : All (IsReportOfSome detail) reports
  pub json : form.json ≡ job.json
  -- unless one is a directory, the images are the arguments and the named files, in order
  pub in_directory : Bool
  pub own : in_directory ≡ false → AreOwn (map (λ word. word.now) job.files.items) names paths
  -- the path is left out only for a single image, and never with a list of names
  pub alone : form.paths ≡ false → length paths ≤ 1
  pub several : 1 < length job.files.items → form.paths ≡ true
  pub named : 0 < length names → form.paths ≡ true
  -- a list of blocks is that of a single image
  pub listed : is_some list ≡ true → length reports ≤ 1

abbrev pub told_in : {job : CheckJob} {names : List (List ℕ)} {list : Option (List ℕ)} → Archive job names list → List ℕ
told_in archive = told_from archive.form archive.paths 0 archive.reports

-- all images were reported, and the command ends according to their number and status
abbrev pub IsWhole : {job : CheckJob} {names : List (List ℕ)} {list : Option (List ℕ)} → Archive job names list → Result (Unit {0}) ArchiveFault → Type 0
IsWhole archive result = (length archive.reports ≡ length archive.paths) × ((tally : Tally) × IsTally archive.reports tally × (result ≡ ends_over (length archive.reports) tally))

-- the output for an archive, with the names in a list, beside the bytes of a list of blocks; if the output fails or memory runs out, a
-- prefix of the output for its first images; none if there is a list of blocks and not a single image
abbrev pub TellsArchive : CheckJob → List (List ℕ) → Option (List ℕ) → Option (List ℕ) → Option (List ℕ) → Result (Unit {0}) ArchiveFault → Type 0
TellsArchive job names list old new (Err Output) = (archive : Archive job names list) × WritesFront old new (told_in archive)
TellsArchive job names list old new (Err Memory) = (archive : Archive job names list) × WritesFront old new (told_in archive)
TellsArchive job names list old new (Err OneImage) = (is_some list ≡ true) × Keeps old new
TellsArchive job names list old new result = (archive : Archive job names list) × Appends old new (told_in archive) × IsWhole archive result
