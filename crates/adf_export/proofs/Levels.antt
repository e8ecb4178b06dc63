-- Levels that are popped and pushed.
use Rattle.adf_export.proofs.Common.{◌≡◌, ℕ, List, [], ◌∷◌, ◌++◌, Option, Some, IfSome, option_to_list, subst, All-nil, All-pop, All-push, All-same, Level, HaveKeys, HasKeys}

module _ (image : List ℕ) where
  Listed : Level → Type 0
  Listed level = HasKeys image level

  pub none_are : (levels : List Level) → levels ≡ [] → HaveKeys image levels
  unfolding Listed
  none_are levels e = All-same Listed levels [] e (All-nil Listed)

  pub others_are : (old rest : List Level) (r : Option Level) → old ≡ rest ++ option_to_list r → HaveKeys image old → HaveKeys image rest
  unfolding Listed
  others_are old rest r e h = (All-pop Listed old rest r e h).0

  pub last_is : (old rest : List Level) (r : Option Level) (level : Level) → old ≡ rest ++ option_to_list r → r ≡ Some level → HaveKeys image old → HasKeys image level
  unfolding Listed
  last_is old rest r level e is h = subst (λ (o : Option Level). IfSome o Listed) is (All-pop Listed old rest r e h).1

  pub pushed_are : (new rest : List Level) (level : Level) → new ≡ rest ++ level ∷ [] → HaveKeys image rest → HasKeys image level → HaveKeys image new
  unfolding Listed
  pushed_are new rest level e h p = All-same Listed new (rest ++ level ∷ []) e (All-push Listed rest level h p)
