use Rattle.ados_check.proofs.Common.{◌≤◌, vec_capacity, block_count, IsBetween, work}
use Rattle.ados_check.proofs.reaching.reach.Given as goal

abbrev pub invariant-loop-block : goal.invariant-loop-block
invariant-loop-block l = record {
  between : IsBetween l.source.bytes l.progress.marks.items l.progress.pending.items;
  capacity : block_count l.source.bytes ≤ vec_capacity l.progress.pending;
}

abbrev pub decreases-loop-block : goal.decreases-loop-block
decreases-loop-block l = work l.progress.marks.items l.progress.pending.items
