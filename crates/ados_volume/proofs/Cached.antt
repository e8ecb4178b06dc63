-- The results of the cache of entries, its contents, and the hash slots that are whole.
use Rattle.std.specs.Char.{to_ascii_uppercase}
use Rattle.std.specs.Ordering.{nat_cmp, ordering_then}
use Rattle.std.specs.declared.cmp.Ordering.{Ordering}
use Rattle.std.specs.declared.cmp.Ordering.TheVariants.{Equal}
use Rattle.std.specs.Cmp.Lexicographic.{slice_cmp}
use Rattle.std.specs.FinMap.{nat_cmp-IsAntisymmetric, slice_cmp-IsAntisymmetric}
use Rattle.std.specs.Prelude.{IfNone, is_ok}
use Rattle.std.specs.BTreeMap.{BTreeMap, get, is_at, IsUnchanged, Updates, UpdatesBy}
use Rattle.std.specs.BTreeSet.{BTreeSet, contains}
use Rattle.std.specs.BTreeSet.{IsUnchanged as IsSameSet, Updates as SetUpdates}
use Rattle.std.proofs.lemmas.Bool.{cases_Bool}
use Rattle.std.proofs.lemmas.Bool.Decides.{nat_tests}
use Rattle.adf_block.specs.declared.layout.TheConstants.{TABLE_LONGS}
use Rattle.ados_name.specs.Path.{SameNameSameSlot}
use Rattle.ados_check.proofs.Entered.{is_equal}
use Rattle.ados_volume.specs.steps.Cache.{AreWhole, IsUnknown, IsWhole, Keeps, Puts, sought_cmp}
use Rattle.ados_volume.proofs.Looking.{no_child}
use Rattle.ados_volume.proofs.Common.{Adds, AreChildren, Bool, Err, HasPair, IfSome, List, None, Ok, OnErr, OnOk, Option, Result, Same, Seeks, Some, Sought, Stands, TakesOut, Tree, [], ap, ap₂, arith, bytes_eq, child_of, cond, drop, drop-replicate, entries, false≢true, find, inl, inr, length, length-map, list_any, lookup, map, map-append, name_of, none-some, refl, replicate, slot, subst, suc, sym, take, take_at, true, upper, zero, ℕ, ◌*◌, ◌++◌, ◌+◌, ◌-◌, ◌<◌, ◌==◌, ◌∙◌, ◌∷◌, ◌≡◌}

one_sought : (a b : Sought) → a.dir ≡ b.dir → a.length ≡ b.length → a.letters ≡ b.letters → a ≡ b
one_sought a b dir count letters = λ i. record { dir = dir i; length = count i; letters = letters i }

then_equal : (a b : Ordering) → ordering_then a b ≡ Equal → (a ≡ Equal) × (b ≡ Equal)
then_equal Equal b e = (refl, e)
then_equal _ b e = absurd (cc e)

-- keys that are equal in their order are equal
sought_is : (a b : Sought) → is_at (sought_cmp a) b ≡ true → a ≡ b
sought_is a b e =
    let first = then_equal (nat_cmp a.dir b.dir) (ordering_then (nat_cmp a.length b.length) (slice_cmp nat_cmp a.letters b.letters)) (is_equal (sought_cmp a b) e) in
    let later = then_equal (nat_cmp a.length b.length) (slice_cmp nat_cmp a.letters b.letters) first.1 in
    one_sought a b (nat_cmp-IsAntisymmetric a.dir b.dir first.0) (nat_cmp-IsAntisymmetric a.length b.length later.0) (slice_cmp-IsAntisymmetric nat_cmp-IsAntisymmetric a.letters b.letters later.1)

-- equal names have the same key
same_length : (name other : List ℕ) → Same name other → length name ≡ length other
same_length name other e = sym (length-map name upper) ∙ ap length e ∙ length-map other upper

seeks_one : (a b : Sought) (dir : ℕ) (name other : List ℕ) → Seeks a dir name → Seeks b dir other → Same name other → a ≡ b
seeks_one a b dir name other h k e =
    let count = same_length name other e in
    one_sought a b (h.dir ∙ sym k.dir) (h.count ∙ count ∙ sym k.count)
    (h.letters ∙ ap₂ (λ (letters : List ℕ) (n : ℕ). letters ++ replicate (30 - n) 0) e count ∙ sym k.letters)

seeks_same : (a : Sought) (dir dir' : ℕ) (name other : List ℕ) → Seeks a dir name → Seeks a dir' other → Same name other
seeks_same a dir dir' name other h k =
    let count : length name ≡ length other = sym h.count ∙ k.count in
    sym (take_at (map upper name) (replicate (30 - length name) 0) (length name) (length-map name upper))
    ∙ ap₂ (λ (n : ℕ) (letters : List ℕ). take n letters) count (sym h.letters ∙ k.letters)
    ∙ take_at (map upper other) (replicate (30 - length other) 0) (length other) (length-map other upper)

upper_is : (c : ℕ) → to_ascii_uppercase c ≡ upper c
upper_is c = grind (arith, nat_tests)

-- a name copied over zeros, in upper case
pub spelled : (name copied letters : List ℕ) → copied ≡ name → letters ≡ map to_ascii_uppercase (copied ++ drop (length name) (replicate 30 0)) → letters ≡ map upper name ++ replicate (30 - length name) 0
spelled name copied letters same e =
    e
    ∙ (λ i. map (λ c. upper_is c i) (same i ++ drop (length name) (replicate 30 0)))
    ∙ map-append upper name (drop (length name) (replicate 30 0))
    ∙ ap (λ (zeros : List ℕ). map upper name ++ map upper zeros) (drop-replicate (length name) 30 0)
    ∙ ap (λ (zeros : List ℕ). map upper name ++ zeros) (zeros_upper (30 - length name))
  where
    zeros_upper : (n : ℕ) → map upper (replicate n 0) ≡ replicate n 0
    zeros_upper zero = refl
    zeros_upper (suc n) = ap (λ (zeros : List ℕ). 0 ∷ zeros) (zeros_upper n)

-- a pair of a name is that of each name that is the same
pub same_pair : (pairs : BTreeMap Sought ℕ) (dir : ℕ) (name other : List ℕ) (key : ℕ) → Same name other → HasPair pairs dir name key → HasPair pairs dir other key
same_pair pairs dir name other key e h =
    let count = same_length name other e in
    record {
      sought = h.sought;
      found = h.found;
      seeks = record {
        dir = h.seeks.dir;
        count = h.seeks.count ∙ count;
        letters = h.seeks.letters ∙ ap₂ (λ (letters : List ℕ) (n : ℕ). letters ++ replicate (30 - n) 0) e count;
      };
    }

module _ (sought : Sought) (dir : ℕ) (name : List ℕ) (seeks : Seeks sought dir name) where
  -- a found value belongs to a pair
  pub found : (pairs : BTreeMap Sought ℕ) (r : Option ℕ) → r ≡ get sought_cmp pairs sought → IfSome r (λ key. HasPair pairs dir name key)
  found pairs None e = tt
  found pairs (Some key) e = record { sought = sought; found = sym e; seeks = seeks }

  -- without a value there is no pair
  pub found_none : (pairs : BTreeMap Sought ℕ) (r : Option ℕ) → r ≡ get sought_cmp pairs sought → IfNone r (IsUnknown pairs dir name)
  found_none pairs (Some key) e = tt
  found_none pairs None e = λ n key same h. none-some key (e ∙ subst (λ (s : Sought). get sought_cmp pairs s ≡ Some key) (seeks_one h.sought sought dir n name h.seeks seeks same) h.found)

  -- a pair with the key of the cache is that of the directory and the name
  is_it : (pairs : BTreeMap Sought ℕ) (d : ℕ) (n : List ℕ) (k : ℕ) (h : HasPair pairs d n k) → sought ≡ h.sought → (d ≡ dir) × Same n name
  is_it pairs d n k h e = (
    sym h.seeks.dir ∙ ap (λ (s : Sought). s.dir) (sym e) ∙ seeks.dir,
    seeks_same sought d dir n name (subst (λ (s : Sought). Seeks s d n) (sym e) h.seeks) seeks,
  )

  -- a pair is put, or all stays
  pub put_pair : {T E : Type 0} (old new : BTreeMap Sought ℕ) (key : ℕ) (r : Result T E) → OnOk r (Updates sought_cmp old new sought (Some key)) → OnErr r (IsUnchanged old new) → Puts old dir name key new (is_ok r)
  put_pair old new key (Err fault) put stays = record {
    adds = λ d n k h. inl (record { sought = h.sought; found = ap (lookup (is_at (sought_cmp h.sought))) (sym stays) ∙ h.found; seeks = h.seeks });
    keeps = λ d n k h. inl (record { sought = h.sought; found = ap (lookup (is_at (sought_cmp h.sought))) stays ∙ h.found; seeks = h.seeks });
    there = λ e. absurd (false≢true e);
  }
  put_pair old new key (Ok was) put stays = record { adds = adds; keeps = keeps; there = λ e. there }
    where
      there : HasPair new dir name key
      there = record { sought = sought; found = put.1; seeks = seeks }

      adds : Adds old dir name key new
      adds d n k h = elim (cases_Bool (is_at (sought_cmp sought) h.sought)) [
        | inl a ↦
            let is = is_it new d n k h (sought_is sought h.sought a) in
            let value : Some key ≡ Some k = ap (λ (b : Bool). cond b (Some key) (get sought_cmp old h.sought)) (sym a) ∙ sym (put.0 h.sought) ∙ h.found in
            inr (is.0, is.1, sym (cc value))
        | inr a ↦ inl (record { sought = h.sought; found = ap (λ (b : Bool). cond b (Some key) (get sought_cmp old h.sought)) (sym a) ∙ sym (put.0 h.sought) ∙ h.found; seeks = h.seeks })
      ]

      keeps : Keeps old dir name key new
      keeps d n k h = elim (cases_Bool (is_at (sought_cmp sought) h.sought)) [
        | inl a ↦ (let is = is_it old d n k h (sought_is sought h.sought a) in inr (is.0, is.1, there))
        | inr a ↦ inl (record { sought = h.sought; found = put.0 h.sought ∙ ap (λ (b : Bool). cond b (Some key) (get sought_cmp old h.sought)) a ∙ h.found; seeks = h.seeks })
      ]

  -- a removed pair is gone
  pub taken_out : (old new : BTreeMap Sought ℕ) → UpdatesBy sought_cmp (sought_cmp sought) old new None → TakesOut old dir name new
  taken_out old new out d n k h = (was, gone)
    where
      was : HasPair old d n k
      was = elim (cases_Bool (is_at (sought_cmp sought) h.sought)) [
        | inl a ↦ absurd (none-some k (ap (λ (b : Bool). cond b None (get sought_cmp old h.sought)) (sym a) ∙ sym (out.0 h.sought) ∙ h.found))
        | inr a ↦ record { sought = h.sought; found = ap (λ (b : Bool). cond b None (get sought_cmp old h.sought)) (sym a) ∙ sym (out.0 h.sought) ∙ h.found; seeks = h.seeks }
      ]

      gone : ¬ ((d ≡ dir) × Same n name)
      gone same =
          let one : h.sought ≡ sought = seeks_one h.sought sought dir n name (subst (λ (i : ℕ). Seeks h.sought i n) same.0 h.seeks) seeks same.1 in
          none-some k (sym out.1 ∙ subst (λ (s : Sought). get sought_cmp new s ≡ Some k) one h.found)

-- a directory's child is the same for equal names
pub child_same : (t : Tree) (dir : ℕ) (name other : List ℕ) → Same name other → child_of t dir name ≡ child_of t dir other
child_same t dir name other e = ap (λ (letters : List ℕ). find (λ key. bytes_eq (map upper (name_of t key)) letters) (entries t dir)) e

-- pairs are still children after a child was put
pub more : (image : List ℕ) (old new : BTreeMap Sought ℕ) (dir : ℕ) (name : List ℕ) (key : ℕ) → AreChildren image old → Adds old dir name key new
    → ((t : Tree) → Stands image t → child_of t dir name ≡ Some key) → AreChildren image new
more image old new dir name key h adds child d n k p t s = elim (adds d n k p) [
  | inl was ↦ h d n k was t s
  | inr put ↦
      let same_dir : child_of t d n ≡ child_of t dir n = ap (λ (b : ℕ). child_of t b n) put.0 in
      same_dir ∙ child_same t dir n name put.1 ∙ child t s ∙ ap Some (sym put.2)
]

-- pairs of children stay after a child was put
pub kept : (image : List ℕ) (t : Tree) (s : Stands image t) (old new : BTreeMap Sought ℕ) (dir : ℕ) (name : List ℕ) (key : ℕ) → AreChildren image old → Keeps old dir name key new
    → child_of t dir name ≡ Some key → (d : ℕ) (n : List ℕ) (k : ℕ) → HasPair old d n k → HasPair new d n k
kept image t s old new dir name key h keeps child d n k p = elim (keeps d n k p) [
  | inl stays ↦ stays
  | inr put ↦
      let both : Some k ≡ Some key = sym (h d n k p t s) ∙ ap (λ (b : ℕ). child_of t b n) put.0 ∙ child_same t dir n name put.1 ∙ child in
      let own : HasPair new dir n key = same_pair new dir name n key (sym put.1) put.2 in
      subst (λ (j : ℕ). HasPair new d n j) (sym (cc both)) (subst (λ (b : ℕ). HasPair new b n key) (sym put.0) own)
]

-- without pairs, all are children
pub none : (image : List ℕ) (pairs : BTreeMap Sought ℕ) → pairs.entries ≡ [] → AreChildren image pairs
none image pairs e dir name key p = absurd (none-some key (sym (ap (lookup (is_at (sought_cmp p.sought))) e) ∙ p.found))

-- ---- the hash slots

-- without marks, each marked slot is whole
pub none_whole : (image : List ℕ) (pairs : BTreeMap Sought ℕ) (whole : BTreeSet ℕ) → whole.keys ≡ [] → AreWhole image pairs whole
none_whole image pairs whole e dir s small mark = absurd (false≢true (sym (ap (list_any (is_at (nat_cmp (TABLE_LONGS * dir + s)))) e) ∙ mark))

-- a slot stays whole if its pairs stay
pub whole_on : (image : List ℕ) (old new : BTreeMap Sought ℕ) (whole : BTreeSet ℕ) → ((d : ℕ) (n : List ℕ) (k : ℕ) → HasPair old d n k → HasPair new d n k) → AreWhole image old whole → AreWhole image new whole
whole_on image old new whole on h dir s small mark t stands key c e = on dir (name_of t key) key (h dir s small mark t stands key c e)

-- a slot that is whole is marked
pub whole_more : {T E : Type 0} (image : List ℕ) (pairs : BTreeMap Sought ℕ) (old new : BTreeSet ℕ) (dir s mark : ℕ) → mark ≡ TABLE_LONGS * dir + s → s < TABLE_LONGS → IsWhole image pairs dir s → AreWhole image pairs old
    → (r : Result T E) → OnOk r (SetUpdates nat_cmp old new mark true) → OnErr r (IsSameSet old new) → AreWhole image pairs new
whole_more image pairs old new dir s mark is small this h (Err fault) put stays d i l m =
    h d i l (ap (list_any (is_at (nat_cmp (TABLE_LONGS * d + i)))) (sym stays) ∙ m)
whole_more image pairs old new dir s mark is small this h (Ok was) put stays d i l m = elim (cases_Bool (is_at (nat_cmp mark) (TABLE_LONGS * d + i))) [
  | inl a ↦
      let here : TABLE_LONGS * dir + s ≡ TABLE_LONGS * d + i = sym is ∙ nat_cmp-IsAntisymmetric mark (TABLE_LONGS * d + i) (is_equal (nat_cmp mark (TABLE_LONGS * d + i)) a) in
      let same_dir : dir ≡ d = omega (arith, here, small, l) in
      let same_slot : s ≡ i = omega (arith, here, same_dir) in
      subst (λ (b : ℕ). IsWhole image pairs b i) same_dir (subst (λ (j : ℕ). IsWhole image pairs dir j) same_slot this)
  | inr a ↦ h d i l (ap (λ (b : Bool). cond b true (contains nat_cmp old (TABLE_LONGS * d + i))) (sym a) ∙ sym (put.0 (TABLE_LONGS * d + i)) ∙ m)
]

-- in a slot that is whole, a name without a pair is no entry's
pub whole_none : SameNameSameSlot → (image : List ℕ) (pairs : BTreeMap Sought ℕ) (dir : ℕ) (name : List ℕ) → IsWhole image pairs dir (slot name) → IsUnknown pairs dir name → (t : Tree) → Stands image t → child_of t dir name ≡ None
whole_none law image pairs dir name whole unknown t s =
    no_child image t s dir name (λ key c same. unknown (name_of t key) key same (whole t s key c (law (name_of t key) name same)))
