use Rattle.ados_salvage.proofs.Common.{Bool, List, subst, AreGathered}
use Rattle.std.proofs.Common.{rules}
use Rattle.ados_salvage.proofs.Besides.{gathered_tree}
use Rattle.ados_salvage.proofs.undeleted.gathered_deleted.Goals as goal

pub loop-entry-init : goal.loop-entry-init
loop-entry-init c =
    let known = c.args.known.now in
    record {
      gathered = gathered_tree known c.in_ok-gathered.gathered 0 c.requires.known c.requires.none
          (subst (λ (holes : List Bool). AreGathered 0 known.left_out holes known.fillers known.image c.in_ok-gathered.gathered) c.deref.ensures.value (c.in_ok-gathered.ensures known.left_out known.fillers));
      climbed = search rules;
    }
