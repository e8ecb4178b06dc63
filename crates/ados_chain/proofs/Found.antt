-- A link that was found, in terms of its chain; and what follows an entry.
use Rattle.ados_chain.proofs.Common.{◌≡◌, ◌≢◌, ℕ, ◌+◌, ◌-◌, ◌<◌, ◌⊎◌, inl, inr, List, [], ◌∷◌, ◌++◌, length, get_or, Contains, Some, refl, sym, ap, ◌∙◌, subst, arith, append_assoc, append-nil, Contains-append_left, Contains-append_right, Contains-append_cases, block_count, long, Chained, table_entry, FIRST_SLOT, NEXT_IN_CHAIN, LawfulChains, slot_at, InChains, chains_from, entries_of, behind, first_left, Entry, link_block, IsLink, LeadsTo, BeginsWith, Once-before, Contains-here, Contains-later, Contains-split}
use Rattle.ados_chain.proofs.Spelling.{link_block-in, Chained-behind}
use Rattle.ados_chain.proofs.Framing.{link_long-is}
use Rattle.ados_chain.proofs.Chaining.{none_zero, one_chain, chains_same}
use Rattle.ados_chain.proofs.Order.{behind-found, entries-split, Contains-chains_from}

-- a link is one of the 128 longs
pub IsLink-small : (i : ℕ) → IsLink i → i < 128
IsLink-small i (inl h) = omega (arith, h.1)
IsLink-small i (inr h) = omega (arith, h)

-- an entry by one list of lawful chains is an entry by any
pub listed_same : (image : List ℕ) (dir key : ℕ) (chains other : ℕ → List ℕ) → LawfulChains image dir chains → LawfulChains image dir other → InChains chains key → InChains other key
listed_same image dir key chains other h g m = (m.0, m.1, subst (λ (xs : List ℕ). Contains xs key) (chains_same image dir chains other h g m.0 m.1) m.2)

-- an entry is in the chain of its slot
pub in_own_slot : (image : List ℕ) (dir key : ℕ) (chains : ℕ → List ℕ) → LawfulChains image dir chains → InChains chains key → Contains (chains (slot_at image key)) key
in_own_slot image dir key chains h m = subst (λ (s : ℕ). Contains (chains s) key) (sym (h.slotted m.0 key m.1 m.2)) m.2

module _ (image : List ℕ) (dir : ℕ) (chains : ℕ → List ℕ) (h : LawfulChains image dir chains) (s : ℕ) (small : s < 72) (entry block i : ℕ) (to : LeadsTo dir s (chains s) entry block i) where
  front_in : (k : ℕ) → Contains to.front k → Contains (chains s) k
  front_in k m = subst (λ (xs : List ℕ). Contains xs k) (sym to.split) (Contains-append_left to.front to.rest k m)

  -- the link is in the directory or in an entry before it
  pub block_cases : (block ≡ dir) ⊎ Contains to.front block
  block_cases = go to.front to.at_block
    where
      go : (front : List ℕ) → block ≡ link_block dir front → (block ≡ dir) ⊎ Contains front block
      go [] e = inl e
      go (key ∷ keys) e = inr (subst (Contains (key ∷ keys)) (sym e) (link_block-in key keys))

  pub block_inside : block < block_count image
  block_inside = elim block_cases [ inl e ↦ subst (λ (b : ℕ). b < block_count image) (sym e) h.inside.1 | inr m ↦ (h.entry s block small (front_in block m)).inside.1 ]

  pub long_is : IsLink i
  long_is = subst IsLink (sym to.at_long) (link_long-is s to.front small)

  -- the link is not in a block other than these
  pub block_apart : (key : ℕ) → key ≢ dir → ¬ Contains to.front key → block ≢ key
  block_apart key n m e = elim block_cases [ inl d ↦ n (sym e ∙ d) | inr f ↦ m (subst (Contains to.front) e f) ]

  -- the key in the link
  pub held : Chained image NEXT_IN_CHAIN (long image block i) to.rest
  held =
      let behind = Chained-behind image dir (FIRST_SLOT + s) to.front to.rest (subst (λ (xs : List ℕ). Chained image NEXT_IN_CHAIN (table_entry image dir s) xs) to.split (h.spelled s small)) in
      subst (λ (b : ℕ). Chained image NEXT_IN_CHAIN (long image b i) to.rest) (sym to.at_block) (subst (λ (j : ℕ). Chained image NEXT_IN_CHAIN (long image (link_block dir to.front) j) to.rest) (sym to.at_long) behind)

  -- an entry of the chain is the first after the link
  pub entry_follows : Contains (chains s) entry → (back : List ℕ) × (chains s ≡ to.front ++ entry ∷ back)
  entry_follows m = go to.rest to.split to.begins
    where
      go : (rest : List ℕ) → chains s ≡ to.front ++ rest → BeginsWith entry rest → (back : List ℕ) × (chains s ≡ to.front ++ entry ∷ back)
      go [] e b = absurd (to.absent (subst (λ (xs : List ℕ). Contains xs entry) (e ∙ append-nil to.front) m))
      go (key ∷ back) e b = (back, e ∙ ap (λ (k : ℕ). to.front ++ k ∷ back) b)

  -- the link holds the entry exactly if the chain has the entry
  pub held_listed : long image block i ≡ entry → entry ≢ 0 → Contains (chains s) entry
  held_listed e n = go to.rest to.split held
    where
      go : (rest : List ℕ) → chains s ≡ to.front ++ rest → Chained image NEXT_IN_CHAIN (long image block i) rest → Contains (chains s) entry
      go [] f c = absurd (n (sym e ∙ c))
      go (key ∷ back) f c = subst (λ (xs : List ℕ). Contains xs entry) (sym f) (Contains-append_right to.front (key ∷ back) entry (subst (λ (k : ℕ). Contains (key ∷ back) k) (sym c.0 ∙ e) (Contains-here key back)))

  pub listed_held : Contains (chains s) entry → long image block i ≡ entry
  listed_held m = go to.rest to.split to.begins held
    where
      go : (rest : List ℕ) → chains s ≡ to.front ++ rest → BeginsWith entry rest → Chained image NEXT_IN_CHAIN (long image block i) rest → long image block i ≡ entry
      go [] e b c = absurd (to.absent (subst (λ (xs : List ℕ). Contains xs entry) (e ∙ append-nil to.front) m))
      go (key ∷ back) e b c = c.0 ∙ b

-- a link that holds 0 ends the chain
pub leads_to_end : (image : List ℕ) (dir : ℕ) (chains : ℕ → List ℕ) → LawfulChains image dir chains → (s : ℕ) → s < 72 → (block i : ℕ) → (to : LeadsTo dir s (chains s) 0 block i) → chains s ≡ to.front
leads_to_end image dir chains h s small block i to = go to.rest to.split to.begins
  where
    go : (rest : List ℕ) → chains s ≡ to.front ++ rest → BeginsWith 0 rest → chains s ≡ to.front
    go [] e b = e ∙ append-nil to.front
    go (key ∷ back) e b = absurd (none_zero image dir chains h s small key (subst (λ (xs : List ℕ). Contains xs key) (sym e) (Contains-append_right to.front (key ∷ back) key (Contains-here key back))) b)

module _ (image : List ℕ) (dir : ℕ) (chains : ℕ → List ℕ) (h : LawfulChains image dir chains) (s key : ℕ) (small : s < 72) (m : Contains (chains s) key) where
  -- an entry is followed by the later entries of its chain, then by those of the next slots
  behind-entry : (back : List ℕ) × (Chained image NEXT_IN_CHAIN (long image key NEXT_IN_CHAIN) back) × ((k : ℕ) → Contains back k → Contains (chains s) k)
      × (behind key (entries_of chains) ≡ Some (back ++ chains_from chains (s + 1) (72 - (s + 1))))
  behind-entry =
      let at = Contains-split (chains s) key m in
      let spelled = subst (λ (xs : List ℕ). Chained image NEXT_IN_CHAIN (table_entry image dir s) xs) at.2 (h.spelled s small) in
      (at.1, (Chained-behind image dir (FIRST_SLOT + s) at.0 (key ∷ at.1) spelled).1, λ k b. subst (λ (xs : List ℕ). Contains xs k) (sym at.2) (Contains-append_right at.0 (key ∷ at.1) k (Contains-later key at.1 k b)), after at.0 at.1 at.2)
    where
      after : (front back : List ℕ) → chains s ≡ front ++ key ∷ back → behind key (entries_of chains) ≡ Some (back ++ chains_from chains (s + 1) (72 - (s + 1)))
      after front back split =
          let later = chains_from chains (s + 1) (72 - (s + 1)) in
          let before = chains_from chains 0 s in
          let apart : ¬ Contains (before ++ front) key =
          λ c. elim (Contains-append_cases before front key c) [
            | inl a ↦ let t = Contains-chains_from chains 0 s key a in absurd (omega (arith, t.2, one_chain image dir chains h t.0 s key (omega (arith, t.2)) small t.3 m))
            | inr b ↦ Once-before front key back (subst (λ (xs : List ℕ). (i j d : ℕ) → i < j → j < length xs → get_or xs i d ≢ get_or xs j d) split (h.once s small)) b
          ] in
          ap (λ (xs : List ℕ). behind key xs) (entries-split chains s small ∙ ap (λ (xs : List ℕ). before ++ (xs ++ later)) split ∙ ap (λ (xs : List ℕ). before ++ xs) (append_assoc front (key ∷ back) later) ∙ sym (append_assoc before front (key ∷ (back ++ later))))
          ∙ behind-found (before ++ front) key (back ++ later) apart

  -- an entry that is not the last of its chain
  pub behind-more : (next : ℕ) → next ≡ long image key NEXT_IN_CHAIN → next ≢ 0 → first_left (behind key (entries_of chains)) ≡ Entry next
  behind-more next e n = let a = behind-entry in ap first_left a.3 ∙ go a.0 a.1
    where
      go : (back : List ℕ) → Chained image NEXT_IN_CHAIN (long image key NEXT_IN_CHAIN) back → first_left (Some (back ++ chains_from chains (s + 1) (72 - (s + 1)))) ≡ Entry next
      go [] c = absurd (n (e ∙ c))
      go (k ∷ back) c = ap Entry (sym c.0 ∙ sym e)

  -- the last entry of its chain
  pub behind-last : long image key NEXT_IN_CHAIN ≡ 0 → behind key (entries_of chains) ≡ Some (chains_from chains (s + 1) (72 - (s + 1)))
  behind-last e = let a = behind-entry in a.3 ∙ go a.0 a.1 a.2
    where
      go : (back : List ℕ) → Chained image NEXT_IN_CHAIN (long image key NEXT_IN_CHAIN) back → ((k : ℕ) → Contains back k → Contains (chains s) k)
          → Some (back ++ chains_from chains (s + 1) (72 - (s + 1))) ≡ Some (chains_from chains (s + 1) (72 - (s + 1)))
      go [] c sub = refl
      go (k ∷ back) c sub = absurd (none_zero image dir chains h s small k (sub k (Contains-here k back)) (sym c.0 ∙ e))
