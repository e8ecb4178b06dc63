use Rattle.ados_salvage.proofs.Common.{◌≡◌, ℕ, ◌<◌, length, slice_index_or, block_count, Deleted, AreGatheredBy}
use Rattle.ados_salvage.specs.steps.Undeleting.{IsThere}
use Rattle.ados_salvage.proofs.undeleted.gathered_deleted.Given as goal

abbrev pub invariant-loop-entry : goal.invariant-loop-entry
invariant-loop-entry l = record {
  gathered : AreGatheredBy l.known l.gathered;
  climbed : length l.climbed.items ≡ block_count l.known.image;
}

abbrev pub invariant-loop-entry-2 : goal.invariant-loop-entry-2
invariant-loop-entry-2 l = record {
  gathered : AreGatheredBy l.known l.gathered;
  climbed : length l.climbed.items ≡ block_count l.known.image;
  there : (k : ℕ) (d : Deleted) → k < l.entry-index → IsThere l.gathered.places.items (slice_index_or l.deleted k d);
}
