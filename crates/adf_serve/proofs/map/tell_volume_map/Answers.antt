use Rattle.std.proofs.Common.{true, sym, subst}
use Rattle.adf_serve.specs.Mapped.{IsBareMap, IsMapReport}
use Rattle.adf_serve.proofs.Printing.{accepted_tree, report_told, report_unmade}
use Rattle.adf_serve.proofs.map.tell_volume_map.Goals as goal

pub returns-in_err-text : goal.returns-in_err-text
returns-in_err-text g c = λ image accepts marks. report_unmade (IsMapReport c.args.job.now) IsBareMap _ _ c.from_residual.ensures.1

pub returns : goal.returns
returns g c = λ image accepts marks.
    let volume = c.args.volume.now in
    let tree = accepted_tree image volume.was_validated volume.image accepts in
    report_told (IsMapReport c.args.job.now) IsBareMap c.deref.result.now _ _ c.tell.result
    (subst (IsMapReport c.args.job.now true) (sym c.deref.ensures.value) (image, c.args.unread.now, marks, (volume.was_validated, volume.image, tree.0, accepts, tree.1, c.in_ok-text.ensures tree.0 tree.1)))
    c.tell.ensures.ok c.tell.ensures.front c.tell.ensures.output
