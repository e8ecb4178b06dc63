-- Targets that are found, and changes of them.
use Rattle.std.proofs.Common.{◌≡◌, ℕ, List, Option, Result, Ok, Err, sym, ◌∙◌, subst}
use Rattle.adf_import.proofs.Common.{MatchResult, DosError, Tree, Stands, Shown, Changes, object_at}
use Rattle.adf_import.specs.Paths.{ChangesAt}

-- a target that is found
pub at_found : {K E : Type 0} (P : K → Type 0) (Q : E → Type 0) (r : Result K E) (found : K) → r ≡ Ok found → P found → MatchResult r P Q
at_found {K} {E} P Q r found is p = subst (λ (x : Result K E). MatchResult x P Q) (sym is) p

-- a change with another form of its refusal and of its effect on trees
pub same_changes : {A E : Type 0} (refusal other : Tree → Option E) (change again : A → Tree → Tree) (old new : Shown) (r : Result A E)
    → ((t : Tree) → Stands old.image t → other t ≡ refusal t) → ((a : A) (t : Tree) → Stands old.image t → again a t ≡ change a t)
    → Changes refusal change old new r → Changes other again old new r
same_changes refusal other change again old new (Ok a) refuses makes h = (λ t s. (refuses t s ∙ (h.0 t s).0, subst (Stands new.image) (sym (makes a t s)) (h.0 t s).1), h.1)
same_changes refusal other change again old new (Err error) refuses makes h = ((h.0.0, λ t s. refuses t s ∙ h.0.1 t s), h.1)

-- a read of a volume before a change
pub changed_from : {A E : Type 0} (refusal : Tree → Option E) (change : A → Tree → Tree) (old looked new : Shown) (r : Result A E) → looked ≡ old → Changes refusal change looked new r → Changes refusal change old new r
changed_from refusal change old looked new r same h = subst (λ (v : Shown). Changes refusal change v new r) same h

-- the object at a path is changed
pub object_changed : (Changed : ℕ → Shown → Shown → Result Unit DosError → Type 0) (path : List ℕ) (key : ℕ) (old looked new : Shown) (r : Result Unit DosError)
    → ((t : Tree) → Stands old.image t → Ok key ≡ object_at path t) → looked ≡ old → Changed key looked new r → ChangesAt (object_at path) Changed old new r
object_changed Changed path key old looked new r is same h = λ t s.
    at_found (λ (k : ℕ). Changed k old new r) _ (object_at path t) key (sym (is t s)) (subst (λ (v : Shown). Changed key v new r) same h)
