use Rattle.std.proofs.Common.{All, List, sym, subst, arith}
use Rattle.adf_archive.proofs.Common.{All-push, HasValues, ShownFault}
use Rattle.std.proofs.lemmas.Grind.{common_steps}
use Rattle.adf_archive.proofs.faults.shown_faults.Goals as goal

pub loop-fault-preserved : goal.loop-fault-preserved
loop-fault-preserved c = record {
  faults = grind (arith, common_steps);
  values = subst (λ (shown : List ShownFault). All (HasValues c.args.image.now c.args.marks.now) shown) (sym c.in_ok-push.ensures.items)
      (All-push (HasValues c.args.image.now c.args.marks.now) c.loop-fault.shown.items _ c.loop-fault.invariant.values c.values_of.ensures);
}
