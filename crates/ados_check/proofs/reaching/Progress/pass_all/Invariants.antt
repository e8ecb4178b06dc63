use Rattle.ados_check.proofs.Common.{◌≡◌, ◌≤◌, vec_capacity, IsInHand, work}
use Rattle.ados_check.proofs.reaching.Progress.pass_all.Given as goal

abbrev pub invariant-loop-i : goal.invariant-loop-i
invariant-loop-i l = record {
  hand : IsInHand l.source.bytes l.self.marks.items l.self.pending.items l.holder l.role l.i;
  less : work l.self.marks.items l.self.pending.items ≤ work l.fn.self.marks.items l.fn.self.pending.items;
  capacity : vec_capacity l.self.pending ≡ vec_capacity l.fn.self.pending;
}
