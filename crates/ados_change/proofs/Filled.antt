-- The block of an entry after its fields were written.
use Rattle.ados_change.proofs.Common.{◌≡◌, ℕ, ◌+◌, ◌/◌, ◌<◌, ◌≤◌, ◌⊎◌, inl, inr, List, length, refl, ◌∙◌, arith, byte_at, block_sum, long, HasText, AtLong, OnlyLong, SameBut, Within, other_long, same_long, same_trans, same_weaken, Date3, IsName, date_at, type_of, Content, IsHead, IsNewEntry, AtTitle, Titled}
use Rattle.ados_change.proofs.Unchanged.{text_kept, date_kept}

pub titled : (old m1 m2 new : List ℕ) (key dir : ℕ) (name : List ℕ) → IsName name → HasText m1 key 432 name → SameBut (Within key 432 (433 + length name)) old m1 → OnlyLong key 125 m1 m2 → long m2 key 125 ≡ dir → OnlyLong key 5 m2 new → block_sum new key ≡ 0 → Titled key dir name old new
titled old m1 m2 new key dir name valid text first second set third sum = record {
  rest = same_trans (AtTitle key (length name)) old m2 new
      (same_trans (AtTitle key (length name)) old m1 m2 (same_weaken (Within key 432 (433 + length name)) (AtTitle key (length name)) old m1 (λ b i w. (w.0, inr (inl (w.1, w.2)))) first) (same_weaken (AtLong key 125) (AtTitle key (length name)) m1 m2 (λ b i w. (w.0, inr (inr w.1))) second))
      (same_weaken (AtLong key 5) (AtTitle key (length name)) m2 new (λ b i w. (w.0, inl w.1)) third);
  named =
      let short = valid.short in
      let mid = text_kept (AtLong key 125) m1 m2 second key 432 name (omega (arith, short)) (λ k l m w. omega (arith, m, w.1, short)) text in
      text_kept (AtLong key 5) m2 new third key 432 name (omega (arith, short)) (λ k l m w. omega (arith, l, w.1)) mid;
  parent = other_long key 5 m2 new third key 125 (omega arith) (inr (omega arith)) ∙ set;
  summed = sum;
}

module _ (m1 m2 m3 m4 new : List ℕ) (key : ℕ) (content : Content) (moment : Date3) (empty : (k : ℕ) → k < 512 → byte_at m1 key k ≡ 0) (first : OnlyLong key 0 m1 m2) (primary : long m2 key 0 ≡ 2) (second : OnlyLong key 1 m2 m3) (own : long m3 key 1 ≡ key)
    (third : OnlyLong key 127 m3 m4) (secondary : long m4 key 127 ≡ type_of content) (last : SameBut (Within key 420 432) m4 new) (date : date_at new key 105 ≡ moment) where
  beside_date : (j : ℕ) → j < 128 → (j < 105) ⊎ (108 ≤ j) → long new key j ≡ long m4 key j
  beside_date j l o = same_long (Within key 420 432) m4 new last key j l (λ k e w. elim o [ inl m ↦ omega (arith, e, m, w.1) | inr m ↦ omega (arith, e, m, w.2) ])

  pub head : IsHead new key content moment
  head = record {
    primary = beside_date 0 (omega arith) (inl (omega arith)) ∙ other_long key 127 m3 m4 third key 0 (omega arith) (inr (omega arith)) ∙ other_long key 1 m2 m3 second key 0 (omega arith) (inr (omega arith)) ∙ primary;
    key_field = beside_date 1 (omega arith) (inl (omega arith)) ∙ other_long key 127 m3 m4 third key 1 (omega arith) (inr (omega arith)) ∙ own;
    date = date;
    secondary = beside_date 127 (omega arith) (inr (omega arith)) ∙ secondary;
    zeros = λ i l n.
        last.same_byte key i l (λ w. n (inr (inl (w.1, w.2))))
        ∙ third.same_byte key i l (λ w. n (inr (inr w.1)))
        ∙ second.same_byte key i l (λ w. n (inl (omega (arith, w.1))))
        ∙ first.same_byte key i l (λ w. n (inl (omega (arith, w.1))))
        ∙ empty i l;
  }

module _ (old new : List ℕ) (key dir : ℕ) (name : List ℕ) (content : Content) (moment : Date3) (valid : IsName name) (h : IsHead old key content moment) (t : Titled key dir name old new) where
  abbrev At : ℕ → ℕ → Type 0
  At = AtTitle key (length name)

  -- a long of the head
  beside_title : (j : ℕ) → j < 128 → (j < 5) ⊎ (((6 ≤ j) × (j < 108)) ⊎ (j ≡ 127)) → (k : ℕ) → k / 4 ≡ j → ¬ At key k
  beside_title j l o k e w = let short = valid.short in omega (arith, o, e, w.1, short)

  kept : (j : ℕ) → j < 128 → (j < 5) ⊎ (((6 ≤ j) × (j < 108)) ⊎ (j ≡ 127)) → long new key j ≡ long old key j
  kept j l o = same_long At old new t.rest key j l (beside_title j l o)

  pub new_entry : IsNewEntry new key dir name content moment
  new_entry = record {
    primary = kept 0 (omega arith) (inl (omega arith)) ∙ h.primary;
    key_field = kept 1 (omega arith) (inl (omega arith)) ∙ h.key_field;
    summed = t.summed;
    date = date_kept At old new t.rest key 105 (omega arith) (λ k l m. beside_title (k / 4) (omega (arith, m)) (inr (inl (omega (arith, l), m))) k refl) ∙ h.date;
    named = t.named;
    parent = t.parent;
    secondary = kept 127 (omega arith) (inr (inr refl)) ∙ h.secondary;
    zeros = λ i l n.
        t.rest.same_byte key i l (λ w. elim (w.1) [
          | inl a ↦ n (inr (inl a))
          | inr (inl a) ↦ n (inr (inr (inl (omega (arith, a.0), a.1))))
          | inr (inr a) ↦ n (inr (inr (inr (inl a))))
        ])
        ∙ h.zeros i l (λ w. elim w [
          | inl a ↦ n (inl a)
          | inr (inl a) ↦ n (inr (inr (inl (a.0, omega (arith, a.1)))))
          | inr (inr a) ↦ n (inr (inr (inr (inr a))))
        ]);
  }
