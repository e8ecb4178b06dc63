-- The comparison of two numbers.
use Rattle.std.proofs.Common.{◌≡◌, ◌≢◌, ℕ, true, false, nat_eq, arith, eq-eqb}
use Rattle.std.proofs.lemmas.Bool.Decides.{nat_tests}

pub eq_true : (a b : ℕ) → a ≡ b → nat_eq a b ≡ true
eq_true a b e = eq-eqb a b e

pub eq_false : (a b : ℕ) → a ≢ b → nat_eq a b ≡ false
eq_false a b h = grind (arith, nat_tests)
