-- Insertion at the end of a chain and removal from it, by the links that change.
use Rattle.ados_chain.proofs.Common.{◌≡◌, ◌≢◌, ℕ, ◌+◌, ◌<◌, inl, inr, List, [], ◌∷◌, ◌++◌, filter, Contains, refl, sym, ap, ◌∙◌, subst, arith, append-nil, eq-eqb, ne_eqb, Contains-append_left, Contains-append_right, Contains-append_cases, Contains-push_cases, Contains-get_or, long, Chained, table_entry, FIRST_SLOT, NEXT_IN_CHAIN, slot, slot_at, IsEntryBlock, LawfulChains, InChains, with_last, without, link_block, link_long, Relinks, InsertsLast, Unlinks, Once, Once-before, Once-behind, Once-apart, Contains-here, Contains-later, is_not, filter-absent, filter-once}
use Rattle.std.proofs.lemmas.List.Quantifiers.{all_pairs_push}
use Rattle.std.proofs.lemmas.List.Kept.{AllPairs-filter}
use Rattle.ados_chain.proofs.Spelling.{Chained-behind, Chained-kept}
use Rattle.ados_chain.proofs.Framing.{link_long-is, longs-kept}
use Rattle.ados_chain.proofs.Chaining.{one_chain, entry_apart, lawful_after}

pub slot-small : (name : List ℕ) → slot name < 72
slot-small name = omega arith

pub slot_at-small : (image : List ℕ) (key : ℕ) → slot_at image key < 72
slot_at-small image key = omega arith

pub with_last-here : (chains : ℕ → List ℕ) (s key : ℕ) → with_last chains s key s ≡ chains s ++ key ∷ []
with_last-here chains s key = rw (eq-eqb s s refl) refl

-- the other chains stay the same
pub with_last-other : (chains : ℕ → List ℕ) (s key t : ℕ) → t ≢ s → with_last chains s key t ≡ chains t
with_last-other chains s key t n = rw (ne_eqb t s n) refl

-- an entry is appended
pub inserted : (old new : List ℕ) (dir key : ℕ) (chains : ℕ → List ℕ) → LawfulChains old dir chains → IsEntryBlock old dir key → ¬ InChains chains key
    → Relinks (link_block dir (chains (slot_at old key))) (link_long (FIRST_SLOT + slot_at old key) (chains (slot_at old key))) key key old new
    → InsertsLast dir key chains old new
inserted old new dir key chains h e absent r = record {
  relinks = r;
  lawful = lawful_after dir (slot_at old key) key key chains (with_last chains (slot_at old key) key) (chains (slot_at old key)) [] (key ∷ []) old new h (record {
    small = small;
    split = sym (append-nil (chains (slot_at old key)));
    relinks = r;
    key_not_dir = e.not_dir;
    key_not_before = λ m. absent (slot_at old key, small, m);
    key_elsewhere = λ t l n m. absent (t, l, m);
    spelled = (refl, r.key_link);
    once = all_pairs_push (λ j k. j ≢ k) (chains (slot_at old key)) key (h.once (slot_at old key) small) (λ k d l same. absent (slot_at old key, small, subst (Contains (chains (slot_at old key))) same (Contains-get_or (chains (slot_at old key)) k d l)));
    entry = λ k m. elim (Contains-push_cases (chains (slot_at old key)) key k m) [ inl n ↦ h.entry (slot_at old key) k small n | inr same ↦ subst (IsEntryBlock old dir) same e ];
    slotted = λ k m. elim (Contains-push_cases (chains (slot_at old key)) key k m) [ inl n ↦ h.slotted (slot_at old key) k small n | inr same ↦ ap (slot_at old) (sym same) ];
    here = with_last-here chains (slot_at old key) key;
    others = λ t l n. with_last-other chains (slot_at old key) key t n;
  });
}
  where
    small : slot_at old key < 72
    small = slot_at-small old key

module _ (old new : List ℕ) (dir key : ℕ) (chains : ℕ → List ℕ) (front back : List ℕ) (h : LawfulChains old dir chains) (split : chains (slot_at old key) ≡ front ++ key ∷ back) (r : Relinks (link_block dir front) (link_long (FIRST_SLOT + slot_at old key) front) (long old key NEXT_IN_CHAIN) key old new) where
  s : ℕ
  s = slot_at old key

  small : slot_at old key < 72
  small = slot_at-small old key

  once : Once (front ++ key ∷ back)
  once = subst Once split (h.once (slot_at old key) small)

  in_chain : (k : ℕ) → Contains (front ++ key ∷ back) k → Contains (chains (slot_at old key)) k
  in_chain k m = subst (λ (xs : List ℕ). Contains xs k) (sym split) m

  still_in : (k : ℕ) → Contains (front ++ back) k → Contains (chains (slot_at old key)) k
  still_in k m =
      in_chain k (elim (Contains-append_cases front back k m) [
        | inl a ↦ Contains-append_left front (key ∷ back) k a
        | inr b ↦ Contains-append_right front (key ∷ back) k (Contains-later key back k b)
      ])

  listed : Contains (chains (slot_at old key)) key
  listed = in_chain key (Contains-append_right front (key ∷ back) key (Contains-here key back))

  -- the links after the removed entry are the same
  rest_spelled : Chained new NEXT_IN_CHAIN (long old key NEXT_IN_CHAIN) back
  rest_spelled =
      let spelled = subst (λ (xs : List ℕ). Chained old NEXT_IN_CHAIN (table_entry old dir (slot_at old key)) xs) split (h.spelled (slot_at old key) small) in
      let behind : Chained old NEXT_IN_CHAIN (long old key NEXT_IN_CHAIN) back = (Chained-behind old dir (FIRST_SLOT + slot_at old key) front (key ∷ back) spelled).1 in
      Chained-kept old new NEXT_IN_CHAIN (long old key NEXT_IN_CHAIN) back
      (λ b m.
      longs-kept (link_block dir front) (link_long (FIRST_SLOT + slot_at old key) front) key old new (link_long-is (slot_at old key) front small) r.rest b NEXT_IN_CHAIN (omega arith) (omega arith)
      (entry_apart dir (slot_at old key) front b small (λ f. Once-apart front (key ∷ back) b once f (Contains-later key back b m)))
      (inl (λ e. Once-behind front key back once (subst (Contains back) e m))))
      behind

  -- the other chains do not have the entry
  elsewhere : (t : ℕ) → t < 72 → t ≢ slot_at old key → ¬ Contains (chains t) key
  elsewhere t l n m = n (one_chain old dir chains h t (slot_at old key) key l small m listed)

  -- an entry is removed
  pub unlinked : Unlinks dir key chains old new
  unlinked = record {
    front = front;
    back = back;
    split = split;
    relinks = r;
    lawful = lawful_after dir (slot_at old key) key (long old key NEXT_IN_CHAIN) chains (without chains key) front (key ∷ back) back old new h (record {
      small = small;
      split = split;
      relinks = r;
      key_not_dir = (h.entry (slot_at old key) key small listed).not_dir;
      key_not_before = Once-before front key back once;
      key_elsewhere = elsewhere;
      spelled = rest_spelled;
      once = subst Once (filter-once key front back once) (AllPairs-filter (λ j k. j ≢ k) (is_not key) (front ++ key ∷ back) once);
      entry = λ k m. h.entry (slot_at old key) k small (still_in k m);
      slotted = λ k m. h.slotted (slot_at old key) k small (still_in k m);
      here = ap (filter (is_not key)) split ∙ filter-once key front back once;
      others = λ t l n. filter-absent key (chains t) (elsewhere t l n);
    });
  }
