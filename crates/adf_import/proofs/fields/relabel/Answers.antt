use Rattle.std.proofs.Common.{ℕ, List, [], not, ap, refl, subst}
use Rattle.adf_import.proofs.Common.{Stands, passed}
use Rattle.ados_model.specs.declared.dos_error.DosError.TheVariants.{InvalidComponentName}
use Rattle.ados_model.specs.Edits.{disk_renamed}
use Rattle.ados_model.specs.Refusals.{is_name}
use Rattle.ados_volume.proofs.Refusing.{is_named}
use Rattle.adf_import.proofs.fields.relabel.Goals as goal

pub returns-clause-done : goal.returns-clause-done
returns-clause-done c = (
  λ t s. (
    passed InvalidComponentName (not (is_name c.args.name.now)) [] (ap not (is_named c.args.name.now (c.in-Ok.ensures.valid.0 refl))),
    subst (λ (name : List ℕ). Stands c.rename_disk.new.self.image (disk_renamed c.args.moment name t)) c.in-Ok.ensures.ok (c.rename_disk.ensures.stands t s),
  ),
  c.rename_disk.ensures.keeps,
)
