-- Keys popped from a list, the last first, and pushed on a stack.
use Rattle.std.proofs.Common.{◌≡◌, ℕ, List, [], ◌∷◌, ◌++◌, map, reverse, sym, ap, ◌∙◌, append_assoc}
use Rattle.std.proofs.lemmas.List.{reverse-append}

pub taken_more : (all keys rest taken : List ℕ) (key : ℕ) → all ≡ keys ++ taken → keys ≡ rest ++ key ∷ [] → all ≡ rest ++ key ∷ taken
taken_more all keys rest taken key e f = e ∙ ap (λ (xs : List ℕ). xs ++ taken) f ∙ append_assoc rest (key ∷ []) taken

pub pushed_more : {X : Type 0} (f : ℕ → X) (new old first : List X) (key : ℕ) (taken : List ℕ) (x : X) → old ≡ first ++ reverse (map f taken) → new ≡ old ++ x ∷ [] → x ≡ f key → new ≡ first ++ reverse (map f (key ∷ taken))
pushed_more {X} f new old first key taken x e g is =
    let turned : reverse (f key ∷ map f taken) ≡ reverse (map f taken) ++ f key ∷ [] = reverse-append (f key ∷ []) (map f taken) in
    g ∙ ap (λ (y : X). old ++ y ∷ []) is ∙ ap (λ (xs : List X). xs ++ f key ∷ []) e ∙ append_assoc first (reverse (map f taken)) (f key ∷ []) ∙ ap (λ (xs : List X). first ++ xs) (sym turned)
