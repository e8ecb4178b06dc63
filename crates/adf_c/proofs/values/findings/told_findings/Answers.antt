use Rattle.std.proofs.Common.{List, [], sym, subst, arith}
use Rattle.std.proofs.lemmas.List.{get_or_default}
use Rattle.adf_c.specs.Findings.{AreFindings}
use Rattle.adf_c.specs.declared.values.findings.JipFinding.{JipFinding}
use Rattle.adf_c.proofs.Finding.{all_found, none_found, one_more}
use Rattle.adf_c.proofs.values.findings.told_findings.Goals as goal

pub loop-place-init : goal.loop-place-init
loop-place-init c = subst (λ (l : List JipFinding). AreFindings c.args.image.now c.args.marks.now [] l) (sym c.in_ok-told.ensures.items) (none_found c.args.image.now c.args.marks.now)

pub loop-place-preserved : goal.loop-place-preserved
loop-place-preserved c = one_more c.args.image.now c.args.marks.now c.args.faults.now _ _ c.loop-place.place _ _ c.loop-place.invariant (omega (arith, c.loop-place-test.true)) (get_or_default c.args.faults.now c.loop-place.place _ _ (omega (arith, c.loop-place-test.true))) c.finding_of.ensures c.in_ok-push.ensures.items

pub returns : goal.returns
returns c = all_found c.args.image.now c.args.marks.now c.args.faults.now _ c.loop-place.place c.loop-place.invariant (omega (arith, c.loop-place-test.false))
