use Rattle.ados_validate.proofs.Common.{InPages, SameBut, HaveSums}
use Rattle.ados_validate.proofs.settled.settle_pages.Given as goal

abbrev pub invariant-loop-p : goal.invariant-loop-p
invariant-loop-p l = record {
  rest : SameBut (InPages l.fn.image) l.fn.image l.image;
  sums : HaveSums l.fn.image l.image l.p;
}
