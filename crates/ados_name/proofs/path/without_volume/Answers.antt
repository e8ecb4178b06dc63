use Rattle.ados_name.proofs.Common.{None, Some, refl, is_colon}
use Rattle.ados_name.proofs.SeparatorLemmas.{list_any-found, after-found}
use Rattle.ados_name.proofs.path.without_volume.Goals as goal

pub returns-in-Some : goal.returns-in-Some
returns-in-Some c =
    let path = c.args.path.now in
    let at = c.in-Some.at in
    rw (list_any-found is_colon path (Some at) c.in-Some.ensures) (after-found is_colon path at c.in-Some.ensures)

pub returns-in-None : goal.returns-in-None
returns-in-None c = rw (list_any-found is_colon c.args.path.now None c.in-None.ensures) refl
