-- The lawful chains of a directory, and the chains after one link changed.
use Rattle.ados_chain.proofs.Common.{◌≡◌, ◌≢◌, ℕ, ◌+◌, ◌<◌, ◌≤◌, ◌⊎◌, inl, inr, List, [], ◌∷◌, ◌++◌, length, Contains, refl, sym, ap, ◌∙◌, subst, arith, cases_eq, Contains-append_left, block_count, root_key, Chained, table_entry, FIRST_SLOT, NEXT_IN_CHAIN, IsName, slot, name_at, slot_at, IsEntryBlock, LawfulChains, link_block, link_long, AtLinks, Relinks, IsLink, Once, Once-front, length-once, same_count}
use Rattle.ados_chain.proofs.Spelling.{NoneZero, Chained-unique, Chained-kept, Chained-relinked, KeepsLongs, link_block-in, link_long-entry}
use Rattle.ados_chain.proofs.Framing.{link_long-is, name-kept, longs-kept}

module _ (image : List ℕ) (dir : ℕ) (chains : ℕ → List ℕ) (h : LawfulChains image dir chains) where
  pub none_zero : (s : ℕ) → s < 72 → NoneZero (chains s)
  none_zero s l key m e = omega (arith, (h.entry s key l m).inside.0, e)

  pub dir_absent : (s : ℕ) → s < 72 → ¬ Contains (chains s) dir
  dir_absent s l m = (h.entry s dir l m).not_dir refl

  pub chain-short : (s : ℕ) → s < 72 → length (chains s) ≤ block_count image
  chain-short s l = length-once (chains s) (block_count image) (h.once s l) (λ key m. (h.entry s key l m).inside.1)

  -- a key is in one chain only
  pub one_chain : (s t key : ℕ) → s < 72 → t < 72 → Contains (chains s) key → Contains (chains t) key → s ≡ t
  one_chain s t key l m c d = sym (h.slotted s key l c) ∙ h.slotted t key m d

-- a directory has only one list of chains
pub chains_same : (image : List ℕ) (dir : ℕ) (chains other : ℕ → List ℕ) → LawfulChains image dir chains → LawfulChains image dir other → (s : ℕ) → s < 72 → chains s ≡ other s
chains_same image dir chains other h g s l =
    Chained-unique image NEXT_IN_CHAIN (table_entry image dir s) (chains s) (other s) (none_zero image dir chains h s l) (none_zero image dir other g s l) (h.spelled s l) (g.spelled s l)

-- the link after some entries of a slot is not in the hash table at another slot
link_long-other : (s t : ℕ) (keys : List ℕ) → t < 72 → t ≢ s → FIRST_SLOT + t ≢ link_long (FIRST_SLOT + s) keys
link_long-other s t [] l n e = n (omega arith)
link_long-other s t (key ∷ keys) l n e = omega (arith, link_long-entry keys, e)

-- an entry that is not the last of these keeps its next-in-chain long, if only the link after them changes
pub entry_apart : (dir s : ℕ) (keys : List ℕ) (b : ℕ) → s < 72 → ¬ Contains keys b → (b ≢ link_block dir keys) ⊎ (NEXT_IN_CHAIN ≢ link_long (FIRST_SLOT + s) keys)
entry_apart dir s [] b l n = inr (λ e. omega (arith, e))
entry_apart dir s (key ∷ keys) b l n = inl (λ e. n (subst (Contains (key ∷ keys)) (sym e) (link_block-in key keys)))

-- a block that may be an entry still may, if its name is unchanged
pub entry-kept : (old new : List ℕ) (dir key : ℕ) → block_count new ≡ block_count old → name_at new key ≡ name_at old key → IsEntryBlock old dir key → IsEntryBlock new dir key
entry-kept old new dir key count name e = record {
  inside = (e.inside.0, omega (arith, e.inside.1, count));
  not_root = λ r. e.not_root (r ∙ ap root_key count);
  not_dir = e.not_dir;
  name = subst IsName (sym name) e.name;
}

-- the chains of the new image: the chain of one slot has a new rest after `front`
pub record NewRest (dir s key next : ℕ) (chains chains' : ℕ → List ℕ) (front rest rest' : List ℕ) (old new : List ℕ) : Type 0 where
  pub small : s < 72
  pub split : chains s ≡ front ++ rest
  pub relinks : Relinks (link_block dir front) (link_long (FIRST_SLOT + s) front) next key old new
  pub key_not_dir : key ≢ dir
  pub key_not_before : ¬ Contains front key
  pub key_elsewhere : (t : ℕ) → t < 72 → t ≢ s → ¬ Contains (chains t) key
  pub spelled : Chained new NEXT_IN_CHAIN next rest'
  pub once : Once (front ++ rest')
  pub entry : (k : ℕ) → Contains (front ++ rest') k → IsEntryBlock old dir k
  pub slotted : (k : ℕ) → Contains (front ++ rest') k → slot_at old k ≡ s
  pub here : chains' s ≡ front ++ rest'
  pub others : (t : ℕ) → t < 72 → t ≢ s → chains' t ≡ chains t

module _ (dir s key next : ℕ) (chains chains' : ℕ → List ℕ) (front rest rest' : List ℕ) (old new : List ℕ) (h : LawfulChains old dir chains) (r : NewRest dir s key next chains chains' front rest rest' old new) where
  at : IsLink (link_long (FIRST_SLOT + s) front)
  at = link_long-is s front r.small

  kept : KeepsLongs (link_block dir front) (link_long (FIRST_SLOT + s) front) key old new
  kept = longs-kept (link_block dir front) (link_long (FIRST_SLOT + s) front) key old new at r.relinks.rest

  count : block_count new ≡ block_count old
  count = same_count (AtLinks (link_block dir front) (link_long (FIRST_SLOT + s) front) key) old new r.relinks.rest

  name : (k : ℕ) → IsEntryBlock old dir k → name_at new k ≡ name_at old k
  name k e = name-kept (link_block dir front) (link_long (FIRST_SLOT + s) front) key old new at r.relinks.rest k e.inside.1 e.name

  front_in : (k : ℕ) → Contains front k → Contains (chains s) k
  front_in k m = subst (λ (xs : List ℕ). Contains xs k) (sym r.split) (Contains-append_left front rest k m)

  spelled_here : Chained new NEXT_IN_CHAIN (table_entry new dir s) (front ++ rest')
  spelled_here =
      Chained-relinked old new dir (FIRST_SLOT + s) key front rest rest' (omega (arith, r.small)) (omega arith)
      (λ m. dir_absent old dir chains h s r.small (front_in dir m))
      (Once-front front rest' r.once) r.key_not_dir r.key_not_before kept
      (subst (λ (xs : List ℕ). Chained old NEXT_IN_CHAIN (table_entry old dir s) xs) r.split (h.spelled s r.small))
      (subst (λ (first : ℕ). Chained new NEXT_IN_CHAIN first rest') (sym r.relinks.link) r.spelled)

  spelled_there : (t : ℕ) → t < 72 → t ≢ s → Chained new NEXT_IN_CHAIN (table_entry new dir t) (chains t)
  spelled_there t l n =
      let first : table_entry new dir t ≡ table_entry old dir t = kept dir (FIRST_SLOT + t) (omega arith) (omega arith) (inr (link_long-other s t front l n)) (inl (λ e. r.key_not_dir (sym e))) in
      Chained-kept old new NEXT_IN_CHAIN (table_entry new dir t) (chains t)
      (λ b m. kept b NEXT_IN_CHAIN (omega arith) (omega arith) (entry_apart dir s front b r.small (λ c. n (one_chain old dir chains h t s b l r.small m (front_in b c)))) (inl (λ e. r.key_elsewhere t l n (subst (Contains (chains t)) e m))))
      (subst (λ (x : ℕ). Chained old NEXT_IN_CHAIN x (chains t)) (sym first) (h.spelled t l))

  in_new : (t : ℕ) → t < 72 → (P : ℕ → List ℕ → Type 0) → P s (front ++ rest') → (t ≢ s → P t (chains t)) → P t (chains' t)
  in_new t l P p q =
      elim (cases_eq t s) [
        | inl e ↦ subst (λ (x : ℕ). P x (chains' x)) (sym e) (subst (P s) (sym r.here) p)
        | inr n ↦ subst (P t) (sym (r.others t l n)) (q n)
      ]

  old_entry : (t : ℕ) → t < 72 → (k : ℕ) → Contains (chains' t) k → IsEntryBlock old dir k × (slot_at old k ≡ t)
  old_entry t l = in_new t l (λ x xs. (k : ℕ) → Contains xs k → IsEntryBlock old dir k × (slot_at old k ≡ x)) (λ k m. (r.entry k m, r.slotted k m)) (λ n k m. (h.entry t k l m, h.slotted t k l m))

  pub lawful_after : LawfulChains new dir chains'
  lawful_after = record {
    inside = (h.inside.0, omega (arith, h.inside.1, count));
    spelled = λ t l. in_new t l (λ x xs. Chained new NEXT_IN_CHAIN (table_entry new dir x) xs) spelled_here (spelled_there t l);
    once = λ t l. in_new t l (λ x xs. Once xs) r.once (λ n. h.once t l);
    entry = λ t k l m. let e = (old_entry t l k m).0 in entry-kept old new dir k count (name k e) e;
    slotted = λ t k l m. let e = old_entry t l k m in ap slot (name k e.0) ∙ e.1;
  }
