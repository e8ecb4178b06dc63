-- Facts about a success or an error, whatever it is.
use Rattle.std.proofs.Common.{Result, Ok, Err, OnErr, IfOk}

-- what always holds also holds after an error
pub at_any_err : {T E Q : Type 0} (r : Result T E) → Q → OnErr r Q
at_any_err (Ok x) q = tt
at_any_err (Err e) q = q

-- a consequence of two facts about the value of a success
pub if_ok_both : {A E : Type 0} (r : Result A E) (P Q R : A → Type 0) → ((a : A) → P a → Q a → R a) → IfOk r P → IfOk r Q → IfOk r R
if_ok_both (Ok a) P Q R f p q = f a p q
if_ok_both (Err e) P Q R f p q = tt
