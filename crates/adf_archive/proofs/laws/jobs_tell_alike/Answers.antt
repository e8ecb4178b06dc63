use Rattle.std.proofs.Common.{◌≡◌, ℕ, List, length, ap, sym, ◌∙◌, arith}
use Rattle.adf_archive.proofs.Common.{ext_get_or, TooFewBlocks, ImageReport, told_from}
use Rattle.adf_archive.specs.declared.report.ImageReport.TheVariants.{WrongSize}
use Rattle.adf_archive.specs.Laws.{AreAnswers}
use Rattle.adf_archive.proofs.laws.jobs_tell_alike.Goals as goal

same : (answer : ℕ → ImageReport) (count : ℕ) (a b : List ImageReport) → AreAnswers answer count a → AreAnswers answer count b → a ≡ b
same answer count a b of_a of_b =
    ext_get_or (WrongSize TooFewBlocks) a b (of_a.0 ∙ sym of_b.0) (λ i l. of_a.1 i (WrongSize TooFewBlocks) (omega (arith, l, of_a.0)) ∙ sym (of_b.1 i (WrongSize TooFewBlocks) (omega (arith, l, of_a.0))))

pub returns : goal.returns
returns c = λ answer form paths a b of_a of_b. ap (told_from form paths 0) (same answer (length paths) a b of_a of_b)
