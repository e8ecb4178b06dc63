-- The cache has the pairs of the entries that were passed. The walk takes as many steps as there are entries left.
use Rattle.ados_volume.proofs.Common.{AreChildren, AreWhole, Stands, Tree, block_count, ℕ}
use Rattle.ados_chain.proofs.Spelling.{steps}
use Rattle.ados_volume.proofs.Holding.{HoldsOn}
use Rattle.ados_volume.proofs.cache.NameCache.hold.Given as goal

abbrev pub invariant-loop-key : goal.invariant-loop-key
invariant-loop-key l = record {
  children : AreChildren l.image l.self.pairs;
  slots : AreWhole l.image l.self.pairs l.self.whole;
  on : (t : Tree) → Stands l.image t → HoldsOn l.image t l.self.pairs l.dir l.slot l.key;
}

abbrev pub decreases-loop-key : goal.decreases-loop-key
decreases-loop-key l = steps l.image (block_count l.image) l.key
