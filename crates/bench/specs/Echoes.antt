-- A server that answers each number with itself, and dies at 0.
use Rattle.std.specs.Prelude.{◌≡◌, ℕ, Bool, true, false, ◌==◌, ◌||◌}
use Rattle.std.proofs.Common.{ap, sym, ◌∙◌}

pub stays : (a b : Bool) (q : ℕ) → b ≡ (a || (q == 0)) → a ≡ true → b ≡ true
stays a b q e d = e ∙ ap (λ (x : Bool). x || (q == 0)) d

pub closes : (a b : Bool) (q r : ℕ) → r ≡ q → b ≡ (a || (q == 0)) → (r == 0) ≡ true → b ≡ true
closes true b q r s e c = e
closes false b q r s e c = e ∙ (ap (λ (x : ℕ). x == 0) (sym s) ∙ c)
