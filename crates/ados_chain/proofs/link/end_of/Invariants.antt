-- The link follows entries of the chain. The walk takes as many steps as there are entries left.
use Rattle.ados_chain.proofs.Common.{ℕ, List, block_count, LawfulChains}
use Rattle.ados_chain.proofs.Spelling.{steps}
use Rattle.ados_chain.proofs.Walks.{LinksOn}
use Rattle.ados_chain.proofs.link.end_of.Given as goal

abbrev pub invariant-loop-key : goal.invariant-loop-key
invariant-loop-key l = (chains : ℕ → List ℕ) → LawfulChains l.image l.dir chains → LinksOn l.image l.dir l.slot (chains l.slot) 0 l.link.block l.link.long l.key

abbrev pub decreases-loop-key : goal.decreases-loop-key
decreases-loop-key l = steps l.image (block_count l.image) l.key
