-- The values of a slab under numbers from 1.
use Rattle.std.proofs.Common.{◌≡◌, ◌≢◌, ℕ, zero, suc, ◌+◌, ◌-◌, ◌<◌, ◌≤◌, Bool, true, false, cond, List, [], ◌∷◌, map, get_or, Some, None, refl, sym, ap, ap₂, ◌∙◌, inl, inr, subst, arith, add-zero}
use Rattle.std.specs.Prelude.{◌&&◌, nat_le}
use Rattle.std.specs.FinMap as numbered
use Rattle.std.specs.FinMap.Entries.{below_all}
use Rattle.std.proofs.lemmas.List.Sums.{length-filter}
use Rattle.ados_handler.proofs.Common.{Option, IsSome, NumbersFit, T, nat_cmp, eq_by_cmp, is_lt, nat_cmp_total, nat_cmp-IsAntisymmetric, find, is_sorted, get-from_sorted, entries-from_sorted, get-empty, get-insert, get-remove, same_map, nat_tests, eqb_tells, length, filter, is_some, and_parts, cases_eq, le-leb, le-ltb, leb-true, lt-ltb, true≢false, Slab, entries_from, slab_len, Updates, numbered_from_one, table_view}
use Rattle.slab.specs.Slab.{get}
use Rattle.ados_handler.proofs.Holding.{number_tells}

is_below : (i j : ℕ) → i < j → T (is_lt (nat_cmp i j))
is_below i j h = grind (arith, nat_tests)

both : (a b : Bool) → T a → T b → T (a && b)
both true b p q = q
both false b p q = p

below_entries : {X : Type 0} (slots : List (Option X)) (i j : ℕ) → i < j → T (below_all nat_cmp i (entries_from j slots))
below_entries [] i j h = tt
below_entries (None ∷ rest) i j h = below_entries rest i (j + 1) (omega (arith, h))
below_entries (Some x ∷ rest) i j h = both _ _ (is_below i j h) (below_entries rest i (j + 1) (omega (arith, h)))

-- the numbers of a slab's entries rise
pub sorted_entries : {X : Type 0} (slots : List (Option X)) (i : ℕ) → T (is_sorted nat_cmp (entries_from i slots))
sorted_entries [] i = tt
sorted_entries (None ∷ rest) i = sorted_entries rest (i + 1)
sorted_entries (Some x ∷ rest) i = both _ _ (below_entries rest i (i + 1) (omega arith)) (sorted_entries rest (i + 1))

-- the value at a position, and none before the first
find_before : {X : Type 0} (slots : List (Option X)) (i q : ℕ) → q < i → find nat_cmp q (entries_from i slots) ≡ None
find_before [] i q h = refl
find_before (None ∷ rest) i q h = find_before rest (i + 1) q (omega (arith, h))
find_before (Some x ∷ rest) i q h = elim (number_tells q i) [
  | inl w ↦ absurd (omega (arith, h, w.1))
  | inr w ↦ ap (λ b. cond b (Some x) (find nat_cmp q (entries_from (i + 1) rest))) w.0 ∙ find_before rest (i + 1) q (omega (arith, h))
]

find_at : {X : Type 0} (slots : List (Option X)) (i k : ℕ) → find nat_cmp (i + k) (entries_from i slots) ≡ get_or slots k None
find_at [] i k = refl
find_at (None ∷ rest) i zero = find_before rest (i + 1) (i + 0) (omega arith)
find_at (None ∷ rest) i (suc k) = ap (λ n. find nat_cmp n (entries_from (i + 1) rest)) (omega arith) ∙ find_at rest (i + 1) k
find_at (Some x ∷ rest) i zero = elim (number_tells (i + 0) i) [
  | inl w ↦ ap (λ b. cond b (Some x) (find nat_cmp (i + 0) (entries_from (i + 1) rest))) w.0
  | inr w ↦ absurd (w.1 (add-zero i))
]
find_at (Some x ∷ rest) i (suc k) = elim (number_tells (i + suc k) i) [
  | inl w ↦ absurd (omega (arith, w.1))
  | inr w ↦ ap (λ b. cond b (Some x) (find nat_cmp (i + suc k) (entries_from (i + 1) rest))) w.0
      ∙ ap (λ n. find nat_cmp n (entries_from (i + 1) rest)) (omega arith) ∙ find_at rest (i + 1) k
]

module _ {X : Type 0} where
  -- number 0 has no value, and number k + 1 that of the slab under k
  pub get_zero : (s : Slab X) → numbered.get (numbered_from_one s) 0 ≡ None
  get_zero s = get-from_sorted nat_cmp (entries_from 1 s.slots) 0 (sorted_entries s.slots 1) ∙ find_before s.slots 1 0 (omega arith)

  pub get_suc : (s : Slab X) (number : ℕ) → number ≢ 0 → numbered.get (numbered_from_one s) number ≡ get s (number - 1)
  get_suc s number h =
      get-from_sorted nat_cmp (entries_from 1 s.slots) number (sorted_entries s.slots 1)
      ∙ ap (λ n. find nat_cmp n (entries_from 1 s.slots)) (let e : number ≡ 1 + (number - 1) = omega (arith, h) in e) ∙ find_at s.slots 1 (number - 1)

  -- an update of the slab changes the value of one number
  pub get_updated : (old new : Slab X) (key : ℕ) (slot : Option X) → Updates old new key slot → (q : ℕ)
      → numbered.get (numbered_from_one new) q ≡ cond (eq_by_cmp nat_cmp q (key + 1)) slot (numbered.get (numbered_from_one old) q)
  get_updated old new key slot updates q = elim (eqb_tells q 0) [
    | inl z ↦
        let away : eq_by_cmp nat_cmp q (key + 1) ≡ false = elim (number_tells q (key + 1)) [ inl w ↦ absurd (omega (arith, w.1, z.1)) | inr w ↦ w.0 ]
        in ap (numbered.get (numbered_from_one new)) z.1 ∙ get_zero new ∙ sym (get_zero old) ∙ ap (numbered.get (numbered_from_one old)) (sym z.1)
        ∙ sym (ap (λ b. cond b slot (numbered.get (numbered_from_one old) q)) away)
    | inr z ↦ elim (number_tells q (key + 1)) [
      | inl w ↦
          let at_key : q - 1 ≡ key = omega (arith, w.1)
          in get_suc new q z.1 ∙ ap (get new) at_key ∙ updates.changed ∙ sym (ap (λ b. cond b slot (numbered.get (numbered_from_one old) q)) w.0)
      | inr w ↦
          let away : q - 1 ≢ key = λ e. w.1 (omega (arith, e, z.1))
          in get_suc new q z.1 ∙ updates.others (q - 1) away ∙ sym (get_suc old q z.1) ∙ sym (ap (λ b. cond b slot (numbered.get (numbered_from_one old) q)) w.0)
    ]
  ]

  -- so it is an insertion or a removal
  pub update_inserts : (old new : Slab X) (key : ℕ) (value : X) → Updates old new key (Some value) → numbered_from_one new ≡ numbered.insert (numbered_from_one old) (key + 1) value
  update_inserts old new key value updates = same_map nat_cmp_total nat_cmp-IsAntisymmetric _ _ (λ q.
      get_updated old new key (Some value) updates q ∙ sym (get-insert nat_cmp_total (numbered_from_one old) (key + 1) value q))

  pub update_removes : (old new : Slab X) (key : ℕ) → Updates old new key None → numbered_from_one new ≡ numbered.remove (numbered_from_one old) (key + 1)
  update_removes old new key updates = same_map nat_cmp_total nat_cmp-IsAntisymmetric _ _ (λ q.
      get_updated old new key None updates q ∙ sym (get-remove nat_cmp_total (numbered_from_one old) (key + 1) q))

  -- the removal of number 0 changes nothing
  pub remove_zero : (s : Slab X) → numbered_from_one s ≡ numbered.remove (numbered_from_one s) 0
  remove_zero s = same_map nat_cmp_total nat_cmp-IsAntisymmetric _ _ (λ q. sym (get-remove nat_cmp_total (numbered_from_one s) 0 q ∙ elim (number_tells q 0) [
    | inl w ↦ ap (λ b. cond b None (numbered.get (numbered_from_one s) q)) w.0 ∙ sym (get_zero s) ∙ ap (numbered.get (numbered_from_one s)) (sym w.1)
    | inr w ↦ ap (λ b. cond b None (numbered.get (numbered_from_one s) q)) w.0
  ]))

  pub empty_slots : (s : Slab X) → ((key : ℕ) → get s key ≡ None) → numbered_from_one s ≡ numbered.empty
  empty_slots s none = same_map nat_cmp_total nat_cmp-IsAntisymmetric _ _ (λ q. elim (eqb_tells q 0) [
    | inl z ↦ ap (numbered.get (numbered_from_one s)) z.1 ∙ get_zero s ∙ sym (get-empty nat_cmp q)
    | inr z ↦ get_suc s q z.1 ∙ none (q - 1) ∙ sym (get-empty nat_cmp q)
  ])

-- the values do not depend on the first number
values_shift : {X : Type 0} (slots : List (Option X)) (i j : ℕ) → map (λ e. e.1) (entries_from i slots) ≡ map (λ e. e.1) (entries_from j slots)
values_shift [] i j = refl
values_shift (None ∷ rest) i j = values_shift rest (i + 1) (j + 1)
values_shift (Some x ∷ rest) i j = ap (λ l. x ∷ l) (values_shift rest (i + 1) (j + 1))

-- the values of the numbered entries are those of the slab, in order
pub values_are : {X : Type 0} (s : Slab X) → numbered.values (numbered_from_one s) ≡ map (λ e. e.1) (entries_from 0 s.slots)
values_are s = ap (map (λ e. e.1)) (entries-from_sorted nat_cmp (entries_from 1 s.slots) (sorted_entries s.slots 1)) ∙ values_shift s.slots 1 0

filtered : {X : Type 0} (slots : List (Option X)) (i : ℕ) → length (map (λ e. e.1) (entries_from i slots)) ≡ length (filter is_some slots)
filtered [] i = refl
filtered (None ∷ rest) i = filtered rest (i + 1)
filtered (Some x ∷ rest) i = ap suc (filtered rest (i + 1))

-- equally many values as in the slab
pub values_counted : {X : Type 0} (s : Slab X) → slab_len s ≡ length (numbered.values (numbered_from_one s))
values_counted s = sym (ap length (values_are s) ∙ filtered s.slots 0 ∙ length-filter is_some s.slots)

-- ---- the numbers, and a place for one more

module _ {X : Type 0} where
  -- an empty slab has no number
  pub fits_empty : (s : Slab X) → s.slots ≡ [] → NumbersFit s
  fits_empty s none = record { fits = λ key there. absurd (true≢false (sym there ∙ ap (λ (slots : List (Option X)). is_some (get_or slots key None)) none)) }

  -- the same values have the same numbers
  pub fits_same : (old new : Slab X) → NumbersFit old → new.slots ≡ old.slots → NumbersFit new
  fits_same old new fits same = record { fits = λ key there. fits.fits key (subst (λ (slots : List (Option X)). IsSome (get_or slots key None)) same there) }

  -- an update brings at most one number
  pub fits_updated : (old new : Slab X) (key : ℕ) (slot : Option X) → NumbersFit old → Updates old new key slot → (IsSome slot → key < 2147483647) → NumbersFit new
  fits_updated old new key slot fits updates within = record {
    fits = λ k there. elim (cases_eq k key) [
      | inl same ↦ subst (λ i. i < 2147483647) (sym same) (within (subst IsSome (ap (get new) same ∙ updates.changed) there))
      | inr other ↦ fits.fits k (subst IsSome (updates.others k other) there)
    ];
  }

  -- there is a place with a number and room
  pub is_ready : (s : Slab X) → s.vacant_key < 2147483647 → slab_len s + 1 ≤ s.capacity → (table_view s).ready ≡ true
  is_ready s number room = ap₂ (λ (a b : Bool). a && b) (lt-ltb s.vacant_key 2147483647 number) (le-leb (slab_len s + 1) s.capacity room)

  -- no place without a number
  pub no_number : (s : Slab X) → 2147483647 ≤ s.vacant_key → (table_view s).ready ≡ false
  no_number s most = ap (λ (a : Bool). a && nat_le (slab_len s + 1) s.capacity) (le-ltb s.vacant_key 2147483647 most)

  -- and none without room
  pub no_room : (s : Slab X) → (slab_len s + 1 ≤ s.capacity → ⊥) → (table_view s).ready ≡ false
  no_room s full = cases (table_view s).ready refl
    where
      cases : (b : Bool) → (table_view s).ready ≡ b → b ≡ false
      cases false is = refl
      cases true is = absurd (full (leb-true (slab_len s + 1) s.capacity (and_parts _ _ is).1))

  -- a new slab has none
  pub empty_full : (s : Slab X) → s.slots ≡ [] → s.capacity ≡ 0 → (table_view s).ready ≡ false
  empty_full s none room = no_room s (λ fits. omega (arith, fits, room))
