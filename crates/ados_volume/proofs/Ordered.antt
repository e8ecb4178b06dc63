-- From which keys a directory can be listed further.
use Rattle.ados_volume.proofs.Common.{Bool, Contains, Contains-cases, Contains-here, Contains-later, Contains-nil, Entry, IsListed, IsSome, List, Some, Stands, Tree, [], behind, cond, entries, entries_after, eq-eqb, eqb-true, false, false≢true, first_left, inl, inr, refl, subst, sym, true, ℕ, ◌==◌, ◌∙◌, ◌∷◌, ◌≡◌, ◌≢◌}
use Rattle.ados_volume.specs.Order.{IsPlaceIn}
use Rattle.ados_volume.proofs.Looking.{next_listed}

-- a key in the list is followed by something, or by the end
behind-some : (xs : List ℕ) (key : ℕ) → Contains xs key → IsSome (behind key xs)
behind-some [] key c = absurd (Contains-nil key c)
behind-some (x ∷ xs) key c = go (x == key) refl (behind-some xs key)
  where
    go : (b : Bool) → (x == key) ≡ b → (Contains xs key → IsSome (behind key xs)) → IsSome (cond b (Some xs) (behind key xs))
    go true e rest = refl
    go false e rest = elim (Contains-cases x xs key c) [ inl same ↦ absurd (false≢true (sym e ∙ eq-eqb x key same)) | inr later ↦ rest later ]

some-behind : (xs : List ℕ) (key : ℕ) → IsSome (behind key xs) → Contains xs key
some-behind [] key s = absurd (false≢true s)
some-behind (x ∷ xs) key s = go (x == key) refl s (some-behind xs key)
  where
    go : (b : Bool) → (x == key) ≡ b → IsSome (cond b (Some xs) (behind key xs)) → (IsSome (behind key xs) → Contains xs key) → Contains (x ∷ xs) key
    go true e s rest = subst (Contains (x ∷ xs)) (eqb-true x key e) (Contains-here x xs)
    go false e s rest = Contains-later x xs key (rest s)

-- the key of an entry
pub entry_place : (image : List ℕ) (dir key : ℕ) → IsListed image dir key → IsPlaceIn image dir key
entry_place image dir key listed t s = behind-some (dir ∷ entries t dir) key (Contains-later dir (entries t dir) key (listed t s))

-- the key that a call returned as the next one
pub told_place : (image : List ℕ) (dir last key : ℕ) → ((t : Tree) → Stands image t → Entry key ≡ first_left (entries_after t dir last)) → IsPlaceIn image dir key
told_place image dir last key told = entry_place image dir key (λ t s. next_listed t dir last key (sym (told t s)))

-- each such key other than the directory's own is an entry's
pub place_listed : (image : List ℕ) (dir key : ℕ) → key ≢ dir → IsPlaceIn image dir key → IsListed image dir key
place_listed image dir key other place t s = elim (Contains-cases dir (entries t dir) key (some-behind (dir ∷ entries t dir) key (place t s))) [
  | inl same ↦ absurd (other (sym same))
  | inr listed ↦ listed
]
