use Rattle.std.proofs.Common.{◌≡◌, false, None, sym, ◌∙◌}
use Rattle.adf_import.proofs.Common.{none_refuses}
use Rattle.ados_volume.specs.Refusals.{remove_refusals}
use Rattle.ados_volume.proofs.Refusing.{can_remove}
use Rattle.adf_import.proofs.entries.delete.Goals as goal

pub remove-requires : goal.remove-requires
remove-requires c = λ t s.
    let none : c.remove_refusal.result ≡ None = c.in_default.is in
    can_remove t s.proper c.args.key (c.requires t s) false c.args.force (none_refuses (remove_refusals t c.args.key false c.args.force) (sym (c.remove_refusal.ensures t s) ∙ none))
