-- The entries before the key have other names. The walk takes as many steps as there are entries left.
use Rattle.ados_chain.proofs.Common.{ℕ, List, block_count, slot, LawfulChains}
use Rattle.ados_chain.proofs.Spelling.{steps}
use Rattle.ados_chain.proofs.Walks.{SearchedOn}
use Rattle.ados_chain.proofs.read.find.Given as goal

abbrev pub invariant-loop-key : goal.invariant-loop-key
invariant-loop-key l = (chains : ℕ → List ℕ) → LawfulChains l.image l.dir chains → SearchedOn l.image l.name (chains (slot l.name)) l.key

abbrev pub decreases-loop-key : goal.decreases-loop-key
decreases-loop-key l = steps l.image (block_count l.image) l.key
