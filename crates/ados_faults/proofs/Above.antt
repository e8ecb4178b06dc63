-- The extension blocks above a block, one at a time.
use Rattle.ados_faults.proofs.Common.{◌≡◌, ℕ, suc, ◌+◌, ◌-◌, ◌<◌, Bool, true, if◌then◌else◌, List, Option, Some, None, refl, ap, ◌∙◌, arith, option_and_then, option_map, mark_at, Mark, extensions_to, is_extension}

-- as far as p extension blocks lead
abbrev IsOn : List (Option Mark) → ℕ → ℕ → ℕ → ℕ → Type 0
IsOn marks n block p here = extensions_to marks n block ≡ option_map (λ k. k + p) (extensions_to marks (n - p) here)

abbrev counted : List (Option Mark) → ℕ → Mark → Bool → Option ℕ
counted marks m mark further = if further then option_map (λ k. k + 1) (extensions_to marks m mark.holder) else Some 0

opened : (marks : List (Option Mark)) (m here : ℕ) (o : Option Mark) → mark_at marks here ≡ o
    → extensions_to marks (suc m) here ≡ option_and_then (λ mark. if is_extension mark.role then option_map (λ k. k + 1) (extensions_to marks m mark.holder) else Some 0) o
opened marks m here o e =
    ap (option_and_then (λ (mark : Mark). if is_extension mark.role then option_map (λ (k : ℕ). k + 1) (extensions_to marks m mark.holder) else Some 0)) e

fuel : (marks : List (Option Mark)) (n p block here m : ℕ) (o : Option ℕ) → IsOn marks n block p here → n - p ≡ m → extensions_to marks m here ≡ o → extensions_to marks n block ≡ option_map (λ k. k + p) o
fuel marks n p block here m o on e is =
    on ∙ ap (λ (f : ℕ). option_map (λ (k : ℕ). k + p) (extensions_to marks f here)) e ∙ ap (option_map (λ (k : ℕ). k + p)) is

shifted : (p : ℕ) (o : Option ℕ) → option_map (λ k. k + p) (option_map (λ k. k + 1) o) ≡ option_map (λ k. k + (p + 1)) o
shifted p None = refl
shifted p (Some k) = let e : k + 1 + p ≡ k + (p + 1) = omega arith in ap (λ (n : ℕ). Some n) e

pub one_on : (marks : List (Option Mark)) (n p block here : ℕ) (mark : Mark) → IsOn marks n block p here → p < n → mark_at marks here ≡ Some mark → is_extension mark.role ≡ true
    → IsOn marks n block (p + 1) mark.holder
one_on marks n p block here mark on l is further =
    let e : n - p ≡ suc (n - (p + 1)) = omega arith in
    fuel marks n p block here (suc (n - (p + 1))) (option_map (λ (k : ℕ). k + 1) (extensions_to marks (n - (p + 1)) mark.holder)) on e
    (opened marks (n - (p + 1)) here (Some mark) is ∙ ap (counted marks (n - (p + 1)) mark) further) ∙ shifted p (extensions_to marks (n - (p + 1)) mark.holder)
