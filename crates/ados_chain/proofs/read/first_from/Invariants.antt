-- The chains of the slots before s are empty.
use Rattle.ados_chain.proofs.Common.{◌≡◌, ◌-◌, ℕ, List, Some, LawfulChains, chains_from, first_left}
use Rattle.ados_chain.proofs.read.first_from.Given as goal

abbrev pub invariant-loop-s : goal.invariant-loop-s
invariant-loop-s l = (chains : ℕ → List ℕ) → LawfulChains l.image l.dir chains → first_left (Some (chains_from chains l.slot (72 - l.slot))) ≡ first_left (Some (chains_from chains l.s (72 - l.s)))
