use Rattle.ados_map.proofs.Common.{IsImage}
use Rattle.ados_map.proofs.Begun.{IsBegun}
use Rattle.ados_map.proofs.rebuilding.rebuild.Given as goal

abbrev pub invariant-loop-p : goal.invariant-loop-p
invariant-loop-p l = record {
  begun : IsBegun l.initial.image l.named l.p l.image;
  image : IsImage l.image;
}
