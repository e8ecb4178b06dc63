-- What a change of one directory's chains leaves the same elsewhere, for the crates above.
use Rattle.ados_chain.proofs.Common.{◌≡◌, ◌≢◌, ℕ, ◌+◌, ◌<◌, ◌⊎◌, inl, inr, List, [], ◌∷◌, ◌++◌, Contains, sym, ap, ◌∙◌, subst, arith, Contains-append_left, Contains-append_right, block_count, long, Chained, table_entry, FIRST_SLOT, NEXT_IN_CHAIN, CHECKSUM, same_count, slot, name_at, slot_at, IsEntryBlock, LawfulChains, InChains, link_block, link_long, AtLinks, Relinks, InsertsLast, Unlinks, IsLink, Contains-here}
use Rattle.ados_chain.proofs.Spelling.{Chained-kept, link_long-entry}
use Rattle.ados_chain.proofs.Framing.{link_long-is, name-kept, longs-kept}
use Rattle.ados_chain.proofs.Chaining.{entry_apart, entry-kept}
use Rattle.ados_chain.proofs.Changes.{slot_at-small}

-- lists linked by another long stay the same, such as data blocks and extension blocks
module _ (dir s key next : ℕ) (front : List ℕ) (old new : List ℕ) (small : s < 72) (r : Relinks (link_block dir front) (link_long (FIRST_SLOT + s) front) next key old new) where
  -- the chains of another directory stay the same if they have neither the key nor an entry before the link
  pub others_kept : (other : ℕ) (chains : ℕ → List ℕ) → LawfulChains old other chains → other ≢ dir → ((k : ℕ) → InChains chains k → (k ≢ key) × ¬ Contains front k) → LawfulChains new other chains
  others_kept other chains h n apart = record {
    inside = (h.inside.0, omega (arith, h.inside.1, count));
    spelled = λ t l.
        Chained-kept old new NEXT_IN_CHAIN (table_entry new other t) (chains t)
        (λ b m. let a = apart b (t, l, m) in kept b NEXT_IN_CHAIN (omega arith) (omega arith) (entry_apart dir s front b small a.1) (inl a.0))
        (subst (λ (first : ℕ). Chained old NEXT_IN_CHAIN first (chains t)) (sym (kept other (FIRST_SLOT + t) (omega arith) (omega arith) (table_apart front t l) (inr (omega arith)))) (h.spelled t l));
    once = h.once;
    entry = λ t k l m. let e = h.entry t k l m in entry-kept old new other k count (name k e) e;
    slotted = λ t k l m. ap slot (name k (h.entry t k l m)) ∙ h.slotted t k l m;
  }
    where
      at : IsLink (link_long (FIRST_SLOT + s) front)
      at = link_long-is s front small

      count : block_count new ≡ block_count old
      count = same_count (AtLinks (link_block dir front) (link_long (FIRST_SLOT + s) front) key) old new r.rest

      name : (k : ℕ) → IsEntryBlock old other k → name_at new k ≡ name_at old k
      name k e = name-kept (link_block dir front) (link_long (FIRST_SLOT + s) front) key old new at r.rest k e.inside.1 e.name

      kept : (b j : ℕ) → j < 128 → j ≢ CHECKSUM → (b ≢ link_block dir front) ⊎ (j ≢ link_long (FIRST_SLOT + s) front) → (b ≢ key) ⊎ (j ≢ NEXT_IN_CHAIN) → long new b j ≡ long old b j
      kept = longs-kept (link_block dir front) (link_long (FIRST_SLOT + s) front) key old new at r.rest

      table_apart : (keys : List ℕ) (t : ℕ) → t < 72 → (other ≢ link_block dir keys) ⊎ (FIRST_SLOT + t ≢ link_long (FIRST_SLOT + s) keys)
      table_apart [] t l = inl n
      table_apart (k ∷ keys) t l = inr (λ e. omega (arith, link_long-entry keys, e))

-- an insertion into this directory keeps the chains of another
pub inserted-others_kept : (old new : List ℕ) (dir key : ℕ) (chains : ℕ → List ℕ) → InsertsLast dir key chains old new → (other : ℕ) (kept : ℕ → List ℕ) → LawfulChains old other kept → other ≢ dir → ¬ InChains kept key → ((k : ℕ) → InChains kept k → ¬ InChains chains k) → LawfulChains new other kept
inserted-others_kept old new dir key chains i other kept h n absent apart =
    others_kept dir (slot_at old key) key key (chains (slot_at old key)) old new (slot_at-small old key) i.relinks other kept h n
    (λ k m. (λ e. absent (subst (InChains kept) e m), λ f. apart k m (slot_at old key, slot_at-small old key, f)))

-- a removal from this directory keeps the chains of another
pub unlinked-others_kept : (old new : List ℕ) (dir key : ℕ) (chains : ℕ → List ℕ) → Unlinks dir key chains old new → (other : ℕ) (kept : ℕ → List ℕ) → LawfulChains old other kept → other ≢ dir → ((k : ℕ) → InChains kept k → ¬ InChains chains k) → LawfulChains new other kept
unlinked-others_kept old new dir key chains u other kept h n apart =
    others_kept dir (slot_at old key) key (long old key NEXT_IN_CHAIN) u.front old new (slot_at-small old key) u.relinks other kept h n
    (λ k m. (λ e. apart k m (slot_at old key, slot_at-small old key, subst (λ (x : ℕ). Contains (chains (slot_at old key)) x) (sym e) listed), λ f. apart k m (slot_at old key, slot_at-small old key, in_chain k (Contains-append_left u.front (key ∷ u.back) k f))))
  where
    in_chain : (k : ℕ) → Contains (u.front ++ key ∷ u.back) k → Contains (chains (slot_at old key)) k
    in_chain k m = subst (λ (xs : List ℕ). Contains xs k) (sym u.split) m

    listed : Contains (chains (slot_at old key)) key
    listed = in_chain key (Contains-append_right u.front (key ∷ u.back) key (Contains-here key u.back))
