use Rattle.adf_script.proofs.Common.{◌≢◌, ℕ, ◌<◌, get_or}
use Rattle.adf_script.specs.declared.forms.TheConstants.Word.{ALL}
use Rattle.adf_script.specs.declared.forms.Word.TheVariants.{Die}
use Rattle.adf_script.specs.steps.Words.{shape_of}
use Rattle.adf_script.proofs.forms.Word.of_keyword.Given as goal

abbrev pub invariant-loop-word : goal.invariant-loop-word
invariant-loop-word l = (k : ℕ) → k < l.word-index → l.keyword ≢ (shape_of (get_or ALL k Die)).0
