-- The facts of a volume in a form.
use Rattle.std.specs.Prelude.{ℕ, Bool, true, false, List}
use Rattle.ados_model.specs.Tree.{Tree}
use Rattle.adf_record.specs.declared.facts.Facts.{Facts}
use Rattle.adf_record.specs.declared.facts_form.FactsForm.{FactsForm}
use Rattle.adf_record.specs.declared.facts_form.FactsForm.TheVariants.{Plain, Bold, Json}
use Rattle.adf_record.specs.Facts.{AreFacts}
use Rattle.adf_record.specs.Shown.{IsFactsText}
use Rattle.adf_record.specs.Object.{IsFactsObject}

-- the text is that of these facts, in this form
abbrev pub IsTextIn : FactsForm → Facts → List ℕ → Type 0
IsTextIn Plain facts text = IsFactsText false facts text
IsTextIn Bold facts text = IsFactsText true facts text
IsTextIn Json facts text = IsFactsObject facts text

-- the text is that of the facts of the volume with this image and this tree, whose bitmap was rebuilt or not
abbrev pub IsVolumeText : FactsForm → List ℕ → Bool → Tree → List ℕ → Type 0
IsVolumeText form image rebuilt t text = (facts : Facts) × AreFacts image rebuilt t facts × IsTextIn form facts text

-- whether a form is the JSON object
abbrev pub is_json : FactsForm → Bool
is_json Json = true
is_json form = false
