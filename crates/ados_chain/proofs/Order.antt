-- The order of a directory: what follows a key, by its chains.
use Rattle.ados_chain.proofs.Common.{◌≡◌, ℕ, zero, suc, ◌+◌, ◌-◌, ◌<◌, ◌≤◌, inl, inr, Bool, true, false, cond, ◌==◌, List, [], ◌∷◌, ◌++◌, Contains, Option, Some, None, refl, sym, ap, ◌∙◌, subst, arith, append_assoc, eq-eqb, ne_eqb, Contains-append_cases, entries_of, InChains, behind, first_left, Entry, End, Contains-here, Contains-later, Contains-nil}
use Rattle.std.proofs.lemmas.Option.{none-some, same_Some}
use Rattle.ados_chain.specs.Chains.{chains_from}

-- what follows a key at its first occurrence; and none for a key that the list does not have
pub behind-found : (xs : List ℕ) (key : ℕ) (ys : List ℕ) → ¬ Contains xs key → behind key (xs ++ key ∷ ys) ≡ Some ys
behind-found [] key ys n = rw (eq-eqb key key refl) refl
behind-found (x ∷ xs) key ys n =
    rw (ne_eqb x key (λ e. n (subst (λ (z : ℕ). Contains (x ∷ xs) z) e (Contains-here x xs)))) (behind-found xs key ys (λ m. n (Contains-later x xs key m)))

pub behind-absent : (xs : List ℕ) (key : ℕ) → ¬ Contains xs key → behind key xs ≡ None
behind-absent [] key n = refl
behind-absent (x ∷ xs) key n =
    rw (ne_eqb x key (λ e. n (subst (λ (z : ℕ). Contains (x ∷ xs) z) e (Contains-here x xs)))) (behind-absent xs key (λ m. n (Contains-later x xs key m)))

-- a key that follows another is in the list, but not first
behind-in : (xs : List ℕ) (key next : ℕ) (rest : List ℕ) → behind key xs ≡ Some (next ∷ rest) → Contains xs next
behind-in [] key next rest e = absurd (none-some (next ∷ rest) e)
behind-in (x ∷ xs) key next rest e = Contains-later x xs next (go (x == key) e (behind-in xs key next rest))
  where
    go : (b : Bool) → cond b (Some xs) (behind key xs) ≡ Some (next ∷ rest) → (behind key xs ≡ Some (next ∷ rest) → Contains xs next) → Contains xs next
    go true f later = subst (λ (ys : List ℕ). Contains ys next) (sym (same_Some xs (next ∷ rest) f)) (Contains-here next rest)
    go false f later = later f

pub behind-later : (x : ℕ) (xs : List ℕ) (key next : ℕ) (rest : List ℕ) → behind key (x ∷ xs) ≡ Some (next ∷ rest) → Contains xs next
behind-later x xs key next rest = go (x == key)
  where
    go : (b : Bool) → cond b (Some xs) (behind key xs) ≡ Some (next ∷ rest) → Contains xs next
    go true e = subst (λ (ys : List ℕ). Contains ys next) (sym (same_Some xs (next ∷ rest) e)) (Contains-here next rest)
    go false e = behind-in xs key next rest e

-- the chains of m slots from s, then those of the next n slots
pub chains_from-split : (chains : ℕ → List ℕ) (s m n : ℕ) → chains_from chains s (m + n) ≡ chains_from chains s m ++ chains_from chains (s + m) n
unfolding chains_from
chains_from-split chains s zero n =
    let none : zero + n ≡ n = omega arith in
    let here : s ≡ s + zero = omega arith in
    ap (chains_from chains s) none ∙ ap (λ (a : ℕ). chains_from chains a n) here
chains_from-split chains s (suc m) n =
    let more : suc m + n ≡ suc (m + n) = omega arith in
    let there : suc s + m ≡ s + suc m = omega arith in
    ap (chains_from chains s) more
    ∙ ap (λ (xs : List ℕ). chains s ++ xs) (chains_from-split chains (suc s) m n ∙ ap (λ (a : ℕ). chains_from chains (suc s) m ++ chains_from chains a n) there)
    ∙ sym (append_assoc (chains s) (chains_from chains (suc s) m) (chains_from chains (s + suc m) n))

pub Contains-chains_from : (chains : ℕ → List ℕ) (s n key : ℕ) → Contains (chains_from chains s n) key → (t : ℕ) × (s ≤ t) × (t < s + n) × Contains (chains t) key
unfolding chains_from
Contains-chains_from chains s zero key m = absurd (Contains-nil key m)
Contains-chains_from chains s (suc n) key m =
    elim (Contains-append_cases (chains s) (chains_from chains (suc s) n) key m) [
      | inl a ↦ (s, omega arith, omega arith, a)
      | inr b ↦ let r = Contains-chains_from chains (suc s) n key b in (r.0, omega (arith, r.1), omega (arith, r.2), r.3)
    ]

-- the chains from a slot: its own, then those of the next slots
pub chains_from-next : (chains : ℕ → List ℕ) (s : ℕ) → s < 72 → chains_from chains s (72 - s) ≡ chains s ++ chains_from chains (s + 1) (72 - (s + 1))
unfolding chains_from
chains_from-next chains s l =
    let count : 72 - s ≡ suc (72 - (s + 1)) = omega arith in
    let more : suc s ≡ s + 1 = omega arith in
    ap (chains_from chains s) count ∙ ap (λ (a : ℕ). chains s ++ chains_from chains a (72 - (s + 1))) more

-- the entries before a slot, and those from it
pub entries-split : (chains : ℕ → List ℕ) (s : ℕ) → s < 72 → entries_of chains ≡ chains_from chains 0 s ++ (chains s ++ chains_from chains (s + 1) (72 - (s + 1)))
entries-split chains s l =
    let count : 72 ≡ s + (72 - s) = omega arith in
    let start : 0 + s ≡ s = omega arith in
    ap (chains_from chains 0) count
    ∙ chains_from-split chains 0 s (72 - s)
    ∙ ap (λ (xs : List ℕ). chains_from chains 0 s ++ xs) (ap (λ (a : ℕ). chains_from chains a (72 - s)) start ∙ chains_from-next chains s l)

-- an entry of the directory is in one of its chains
pub entry-in_chains : (chains : ℕ → List ℕ) (key : ℕ) → Contains (entries_of chains) key → InChains chains key
entry-in_chains chains key m = let r = Contains-chains_from chains 0 72 key m in (r.0, omega (arith, r.2), r.3)

-- the first entry is in the first slot with a chain that is not empty
pub first-here : (chains : ℕ → List ℕ) (s key : ℕ) (later : List ℕ) → s < 72 → chains s ≡ key ∷ later → first_left (Some (chains_from chains s (72 - s))) ≡ Entry key
first-here chains s key later l e =
    ap (λ (xs : List ℕ). first_left (Some xs)) (chains_from-next chains s l)
    ∙ ap (λ (xs : List ℕ). first_left (Some (xs ++ chains_from chains (s + 1) (72 - (s + 1))))) e

pub first-later : (chains : ℕ → List ℕ) (s : ℕ) → s < 72 → chains s ≡ []
    → first_left (Some (chains_from chains s (72 - s))) ≡ first_left (Some (chains_from chains (s + 1) (72 - (s + 1))))
first-later chains s l e =
    ap (λ (xs : List ℕ). first_left (Some xs)) (chains_from-next chains s l)
    ∙ ap (λ (xs : List ℕ). first_left (Some (xs ++ chains_from chains (s + 1) (72 - (s + 1))))) e

pub first-all : (chains : ℕ → List ℕ) → first_left (Some (chains_from chains 72 (72 - 72))) ≡ End
unfolding chains_from
first-all chains = refl

-- a first remaining key comes from a list
pub first-entry : (left : Option (List ℕ)) (next : ℕ) → first_left left ≡ Entry next → (rest : List ℕ) × (left ≡ Some (next ∷ rest))
first-entry None next e = absurd (cc e)
first-entry (Some []) next e = absurd (cc e)
first-entry (Some (k ∷ ks)) next e = let same : k ≡ next = cc e in (ks, ap (λ (n : ℕ). Some (n ∷ ks)) same)
