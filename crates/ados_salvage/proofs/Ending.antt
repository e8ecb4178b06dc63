-- A name with its endings.
use Rattle.ados_salvage.proofs.Common.{◌≡◌, ℕ, suc, ◌+◌, List, ◌∷◌, ◌++◌, decimal, refl, ap, ◌∙◌, arith, ended}

pub ended_none : (name : List ℕ) (header : ℕ) → ended name header 0 ≡ name
unfolding ended
ended_none name header = refl

ended_suc : (name : List ℕ) (header endings : ℕ) → ended name header (suc endings) ≡ ended name header endings ++ 126 ∷ decimal header
unfolding ended
ended_suc name header endings = refl

-- one more ending
pub ended_more : (name : List ℕ) (header endings : ℕ) → ended name header (endings + 1) ≡ ended name header endings ++ 126 ∷ decimal header
ended_more name header endings = let next : endings + 1 ≡ suc endings = omega arith in ap (ended name header) next ∙ ended_suc name header endings
