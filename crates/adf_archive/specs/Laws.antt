-- Laws about archives.
use Rattle.std.specs.Prelude.{◌≡◌, ℕ, ◌<◌, List, length, slice_index_or}
use Rattle.adf_archive.specs.declared.report.ImageReport.{ImageReport}
use Rattle.adf_archive.specs.declared.telling.Form.{Form}
use Rattle.adf_archive.specs.Lines.{told_from}

-- for each of `count` positions, the report is `answer` of the position
abbrev pub AreAnswers : (ℕ → ImageReport) → ℕ → List ImageReport → Type 0
AreAnswers answer count reports = (length reports ≡ count) × ((i : ℕ) (d : ImageReport) → i < count → slice_index_or reports i d ≡ answer i)

-- Law: if there is one answer for each position, the output for all images is one text.
abbrev pub JobsTellAlike : Type 0
JobsTellAlike =
    (answer : ℕ → ImageReport) (form : Form) (paths : List (List ℕ)) (a b : List ImageReport)
    → AreAnswers answer (length paths) a → AreAnswers answer (length paths) b → told_from form paths 0 a ≡ told_from form paths 0 b
