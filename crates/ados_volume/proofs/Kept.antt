-- The results and contents of the caches of places and of listed entries.
use Rattle.ados_volume.proofs.Common.{AreKnown, AreListed, Contains, Contains-nil, Contains-remove_entry, Drops, IsDistinct, IsPlace, IfSome, List, LruCache, None, OnErr, OnOk, Option, Place, Result, Some, [], eq-eqb, eqb-true, inl, inr, keys_of, lookup, lru_cache, nat_eq, put_entries, refl, remove_entry, subst, sym, ℕ, ◌==◌, ◌≡◌}
use Rattle.ados_volume.proofs.Pairs.{found_pair, gone, put_pair}

-- a found place is one in the file
pub found_place : (pairs : List (ℕ × Place)) (file : ℕ) (place : Place) → lookup (λ k. file == k) pairs ≡ Some place → (image : List ℕ) → AreKnown image pairs → IsPlace image file place
found_place pairs file place e image known = (known file place (found_pair nat_eq eqb-true (λ a. eq-eqb a a refl) pairs file place e)).place_is

-- a found entry is in the cache
pub found_last : (pairs : List (ℕ × ℕ)) (dir : ℕ) (last : Option ℕ) → last ≡ lookup (λ k. dir == k) pairs → IfSome last (λ key. Contains pairs (dir, key))
found_last pairs dir (Some key) is = found_pair nat_eq eqb-true (λ a. eq-eqb a a refl) pairs dir key (sym is)
found_last pairs dir None is = tt

-- what holds for each pair still does after a put of one for which it holds
pub put_holds : {V E : Type 0} (Holds : ℕ → V → Type 0) (old : LruCache ℕ V) (key : ℕ) (value : V) (new : LruCache ℕ V) (r : Result (Option V) E)
    → OnOk r (new ≡ lru_cache (put_entries (λ a b. a == b) old key value) old.cap) → OnErr r (new ≡ old)
    → Holds key value → ((k : ℕ) (v : V) → Contains old.entries (k, v) → Holds k v) → (k : ℕ) (v : V) → Contains new.entries (k, v) → Holds k v
put_holds {V} Holds old key value new r put stays this known k v c = elim (put_pair nat_eq eqb-true (λ a. eq-eqb a a refl) old key value new r put stays k v c) [
  | inl was ↦ known k v was
  | inr is ↦ subst (λ (w : V). Holds k w) (sym is.1) (subst (λ (g : ℕ). Holds g value) (sym is.0) this)
]

-- without pairs, all are entries
pub none_listed : (image : List ℕ) (pairs : List (ℕ × ℕ)) → pairs ≡ [] → AreListed image pairs
none_listed image pairs e dir key c = absurd (Contains-nil (dir, key) (subst (λ (xs : List (ℕ × ℕ)). Contains xs (dir, key)) e c))

-- the place in the file is gone
pub dropped : (old new : LruCache ℕ Place) (file : ℕ) → IsDistinct (λ a b. a == b) (keys_of old.entries) → new ≡ lru_cache (remove_entry (λ k. file == k) old.entries) old.cap → Drops old.entries file new.entries
dropped old new file distinct e f place c =
    let left : Contains (remove_entry (λ k. file == k) old.entries) (f, place) = subst (λ (cache : LruCache ℕ Place). Contains cache.entries (f, place)) e c in (
      Contains-remove_entry (λ k. file == k) old.entries (f, place) left,
      λ same. gone nat_eq eqb-true (λ a. eq-eqb a a refl) file place old.entries distinct (subst (λ (g : ℕ). Contains (remove_entry (λ k. file == k) old.entries) (g, place)) same left),
    )
