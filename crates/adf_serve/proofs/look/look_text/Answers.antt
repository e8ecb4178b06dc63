use Rattle.std.proofs.Common.{IfOk, subst}
use Rattle.ados_model.specs.Stands.{Stands}
use Rattle.ados_model.specs.Tree.{Tree}
use Rattle.adf_record.specs.declared.facts_form.FactsForm.{FactsForm}
use Rattle.adf_record.specs.Forms.{IsVolumeText}
use Rattle.adf_serve.proofs.look.look_text.Goals as goal

pub returns : goal.returns
returns c =
    subst
    (λ (form : FactsForm). IfOk c.volume_text.result (λ text. (t : Tree) → Stands c.args.volume.now.image t → IsVolumeText form c.args.volume.now.image c.args.volume.now.was_validated t text.items))
    c.facts_form.ensures c.volume_text.ensures
