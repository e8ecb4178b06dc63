use Rattle.std.proofs.Common.{false, sym, subst}
use Rattle.std.proofs.lemmas.Result.{on_ok_weaker}
use Rattle.adf_where.specs.FaultyMap.{IsFaultyMap}
use Rattle.adf_serve.specs.Mapped.{IsBareMap, IsMapReport}
use Rattle.adf_serve.specs.Refusals.{IsImageRefusal}
use Rattle.adf_serve.proofs.Printing.{known_front, known_unmade, mapped}
use Rattle.adf_serve.proofs.map.tell_faulty_map.Goals as goal

pub returns-in_err-text-clause-fault : goal.returns-in_err-text-clause-fault
returns-in_err-text-clause-fault g c = known_unmade (IsMapReport c.args.job.now) IsBareMap (IsImageRefusal c.args.image.now c.args.refusal) _ _ c.from_residual.ensures.1

pub returns-clause-ok : goal.returns-clause-ok
returns-clause-ok g c =
    let is = subst (IsFaultyMap c.args.job.now.form c.args.unread.now c.args.image.now c.reason.result.kind.now c.reason.result.block) (sym c.deref.ensures.value) c.in_ok-text.ensures in
    on_ok_weaker c.tell.result (λ told refused. (c.deref.result.now, told, mapped c.args.job.now c.args.unread.now c.args.image.now c.requires c.args.refusal _ _ c.reason.ensures.kind c.reason.ensures.block _ is refused)) c.tell.ensures.ok

pub returns-clause-fault : goal.returns-clause-fault
returns-clause-fault g c =
    let is = subst (IsFaultyMap c.args.job.now.form c.args.unread.now c.args.image.now c.reason.result.kind.now c.reason.result.block) (sym c.deref.ensures.value) c.in_ok-text.ensures in
    known_front (IsMapReport c.args.job.now) IsBareMap (IsImageRefusal c.args.image.now c.args.refusal) false c.deref.result.now _ _ c.tell.result
    (mapped c.args.job.now c.args.unread.now c.args.image.now c.requires c.args.refusal _ _ c.reason.ensures.kind c.reason.ensures.block _ is) c.tell.ensures.front c.tell.ensures.output
