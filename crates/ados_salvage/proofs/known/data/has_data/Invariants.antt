use Rattle.ados_salvage.proofs.KnownCommon.{◌≡◌, ℕ, ◌<◌, data_block, IsDataBlock, data_before}
use Rattle.ados_salvage.proofs.known.data.has_data.Given as goal

abbrev pub invariant-loop-i : goal.invariant-loop-i
invariant-loop-i l = record {
  before : l.before ≡ data_before l.image l.file l.i;
  sound : (k : ℕ) → k < l.i → IsDataBlock l.image l.file k (data_before l.image l.file k) (data_block l.image l.file k);
}
