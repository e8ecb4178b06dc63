-- The paths that arguments name, as a list and as a set; and faults that are passed on.
use Rattle.std.proofs.Common.{◌≡◌, ℕ, ◌+◌, ◌<◌, ◌||◌, Bool, true, false, cond, List, [], ◌∷◌, get_or, length, map, take, Result, Ok, Err, IfErr, IsErrAnd, refl, sym, ap, ◌∙◌, subst}
use Rattle.std.proofs.lemmas.List.Folds.{list_any_more}
use Rattle.std.specs.List.{list_any}
use Rattle.std.specs.Str.{bytes_eq}
use Rattle.adf_rescue.specs.declared.undelete_fault.UndeleteFault.{UndeleteFault}
use Rattle.adf_rescue.specs.Undelete.{IsUndeleteFault}

-- a test of what a function makes of the elements
pub any_made : {A B : Type 0} (test : B → Bool) (f : A → B) (xs : List A) → list_any test (map f xs) ≡ list_any (λ x. test (f x)) xs
any_made test f [] = refl
any_made test f (x ∷ xs) = ap (λ (b : Bool). test (f x) || b) (any_made test f xs)

or_last : (a b : Bool) → cond a true b ≡ b || a
or_last true true = refl
or_last true false = refl
or_last false true = refl
or_last false false = refl

-- the path of one more argument is in the set
pub key_added : {W : Type 0} (f : W → List ℕ) (words : List W) (i : ℕ) (d : W) (key text : List ℕ) (old new : Bool) → i < length words → key ≡ f (get_or words i d)
    → old ≡ list_any (λ w. bytes_eq (f w) text) (take i words) → new ≡ cond (bytes_eq key text) true old → new ≡ list_any (λ w. bytes_eq (f w) text) (take (i + 1) words)
key_added f words i d key text old new inside is before added =
    added
    ∙ ap (λ (b : Bool). cond (bytes_eq key text) true b) before
    ∙ ap (λ (k : List ℕ). cond (bytes_eq k text) true (list_any (λ w. bytes_eq (f w) text) (take i words))) is
    ∙ or_last (bytes_eq (f (get_or words i d)) text) (list_any (λ w. bytes_eq (f w) text) (take i words))
    ∙ sym (list_any_more (λ w. bytes_eq (f w) text) words i d inside)

-- a fault that is passed on is true of the image
pub passed_on : {A : Type 0} (image : List ℕ) (fault : UndeleteFault) (r : Result A UndeleteFault) → ((image : List ℕ) → IsUndeleteFault image fault) → IsErrAnd r (λ told. told ≡ fault)
    → IfErr r (IsUndeleteFault image)
passed_on image fault (Ok x) is same = absurd same
passed_on image fault (Err told) is same = subst (IsUndeleteFault image) (sym same) (is image)
