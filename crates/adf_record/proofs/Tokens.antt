-- Concatenated lists.
use Rattle.adf_record.proofs.Common.{◌≡◌, List, ◌++◌, ap, ◌∙◌, append_assoc}

module _ {X : Type 0} where
  -- one after the other
  pub behind : (old mid new a b : List X) → mid ≡ old ++ a → new ≡ mid ++ b → new ≡ old ++ (a ++ b)
  behind old mid new a b first second = second ∙ ap (λ (xs : List X). xs ++ b) first ∙ append_assoc old a b
