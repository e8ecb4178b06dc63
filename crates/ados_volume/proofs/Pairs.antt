-- The pairs of a cache by its calls, for keys that are equal exactly if their comparison says so.
use Rattle.ados_volume.proofs.Common.{AllByRecursion, Bool, Contains, Contains-cons, Contains-lookup, Contains-nil, Contains-put_entries, Err, IsDistinct, List, LruCache, Ok, OnErr, OnOk, Option, Result, Some, [], ap, false, false≢true, inl, inr, keys_of, lookup, lru_cache, put_entries, refl, remove_entry, subst, sym, true, ◌∙◌, ◌∷◌, ◌≡◌, ◌⊎◌}

module _ {K V : Type 0} (eq : K → K → Bool) (same : (a b : K) → eq a b ≡ true → a ≡ b) (itself : (a : K) → eq a a ≡ true) where
  -- a found value belongs to a pair
  pub found_pair : (pairs : List (K × V)) (key : K) (v : V) → lookup (eq key) pairs ≡ Some v → Contains pairs (key, v)
  found_pair pairs key v e =
      let h = Contains-lookup (eq key) pairs v e in
      subst (λ (k : K). Contains pairs (k, v)) (sym (same key h.0 h.2)) h.1

  -- a put adds at most its pair
  pub put_pair : {E : Type 0} (old : LruCache K V) (key : K) (value : V) (new : LruCache K V) (r : Result (Option V) E)
      → OnOk r (new ≡ lru_cache (put_entries eq old key value) old.cap) → OnErr r (new ≡ old) → (k : K) (v : V) → Contains new.entries (k, v) → Contains old.entries (k, v) ⊎ ((k ≡ key) × (v ≡ value))
  put_pair old key value new (Ok o) put stays k v c =
      elim (Contains-put_entries eq old key value (k, v) (subst (λ (cache : LruCache K V). Contains cache.entries (k, v)) put c)) [
        | inl was ↦ inl was
        | inr added ↦ inr (elim added.1 [ inl is ↦ is | inr there ↦ sym (same key k there.2) ], added.0)
      ]
  put_pair old key value new (Err e) put stays k v c = inl (subst (λ (cache : LruCache K V). Contains cache.entries (k, v)) stays c)

  apart : (x key : K) (v : V) (pairs : List (K × V)) → AllByRecursion (λ y. eq x y ≡ false) (keys_of pairs) → Contains pairs (key, v) → eq x key ≡ false
  apart x key v [] all c = absurd (Contains-nil (key, v) c)
  apart x key v (f ∷ pairs) all c = elim (Contains-cons f pairs (key, v) c) [
    | inl e ↦ subst (λ (p : K × V). eq x p.0 ≡ false) e all.0
    | inr later ↦ apart x key v pairs all.1 later
  ]

  -- a removed pair is gone
  pub gone : (key : K) (v : V) (pairs : List (K × V)) → IsDistinct eq (keys_of pairs) → ¬ Contains (remove_entry (eq key) pairs) (key, v)
  unfolding IsDistinct
  gone key v [] distinct c = Contains-nil (key, v) c
  gone key v (f ∷ pairs) distinct c = go (eq key f.0) refl (gone key v pairs distinct.1)
    where
      go : (b : Bool) → eq key f.0 ≡ b → ¬ Contains (remove_entry (eq key) pairs) (key, v) → ⊥
      go true e rest =
          let other = apart f.0 key v pairs distinct.0 (rw e at c) in
          false≢true (sym (subst (λ (x : K). eq x key ≡ false) (sym (same key f.0 e)) other) ∙ itself key)
      go false e rest = elim (Contains-cons f (remove_entry (eq key) pairs) (key, v) (rw e at c)) [
        | inl is ↦ false≢true (sym e ∙ ap (λ (p : K × V). eq key p.0) is ∙ itself key)
        | inr later ↦ rest later
      ]
