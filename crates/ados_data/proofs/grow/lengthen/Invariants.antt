use Rattle.ados_data.proofs.Common.{◌-◌, ◌≡◌, ◌≤◌, ◌<◌, ◌*◌, NoneFreeBelow, data_size, contents, GrowsFile, IsEnd, IsLonger}
use Rattle.ados_data.proofs.grow.lengthen.Given as goal

abbrev pub invariant-loop-reached : goal.invariant-loop-reached
invariant-loop-reached l = record {
  below : l.reached ≤ l.size;
  grown : GrowsFile l.fn.image l.file l.reached l.image;
  end_is : IsEnd l.image l.file l.end;
  bound : NoneFreeBelow l.image l.bound;
  full : l.reached < l.size → l.reached ≡ data_size l.format * l.end.count;
  bytes : IsLonger l.format (contents l.fn.image l.file) l.reached (contents l.image l.file);
}

abbrev pub decreases-loop-reached : goal.decreases-loop-reached
decreases-loop-reached l = l.size - l.reached
