use Rattle.adf_import.proofs.change.change_volume.Goals as goal

pub returns-in_ok-add_as-in-AddAs : goal.returns-in_ok-add_as-in-AddAs
returns-in_ok-add_as-in-AddAs g c = rw c.in-AddAs.is c.in_ok-add_as-in-AddAs.ensures
