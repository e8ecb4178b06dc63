-- Members that are written one after the other.
use Rattle.adf_record.proofs.Common.{◌≡◌, ℕ, List, [], ◌∷◌, ◌++◌, decimal, Option, ap, ◌∙◌, Token, key, number, string}
use Rattle.adf_record.specs.Members.{number_token}

module _ (old new : List Token) (name : List ℕ) where
  -- a member that is this number
  pub number_is : (n m : ℕ) → new ≡ old ++ key name ∷ number (decimal n) ∷ [] → n ≡ m → new ≡ old ++ key name ∷ number (decimal m) ∷ []
  number_is n m written is = written ∙ ap (λ (k : ℕ). old ++ key name ∷ number (decimal k) ∷ []) is

  -- a member that is this number or null
  pub member_is : (n m : Option ℕ) → new ≡ old ++ key name ∷ number_token n ∷ [] → n ≡ m → new ≡ old ++ key name ∷ number_token m ∷ []
  member_is n m written is = written ∙ ap (λ (k : Option ℕ). old ++ key name ∷ number_token k ∷ []) is

  -- a member that is this text
  pub text_is : (text other : List ℕ) → new ≡ old ++ key name ∷ string text ∷ [] → text ≡ other → new ≡ old ++ key name ∷ string other ∷ []
  text_is text other written is = written ∙ ap (λ (words : List ℕ). old ++ key name ∷ string words ∷ []) is
