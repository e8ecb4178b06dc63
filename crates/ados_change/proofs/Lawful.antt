-- An image of a tree has lawful bitmap blocks and hash chains, even while one key is in no list.
use Rattle.ados_change.proofs.Common.{◌≡◌, ◌≢◌, ℕ, ◌+◌, ◌<◌, ◌==◌, List, length, slice_index, true, Contains, Some, refl, sym, ap, ◌∙◌, subst, arith, eqb-true, All-contains, filter_passes, AllPairs-filter, IsInside, block_count, long, root_key, NAME_BYTE, slot, IsName, LawfulPages, page_block, pages_of, LawfulChains, IsEntryBlock, InChains, name_at, slot_at, Node, Tree, entries, name_of, root, Directory, Duty, Layout, HasDuty, in_slot, parent_in, slice_get-index}
use Rattle.ados_change.proofs.Entering.{Contains-part}
use Rattle.ados_change.proofs.Loose.{Loose, Spells, parent_not_root, own_parent}
use Rattle.ados_model.proofs.NoFaults.{text_is}

module _ (image : List ℕ) (t : Tree) (l : Layout) (key : ℕ) (s : Spells image t l) (loose : Loose t key) where
  pub count : block_count image ≡ t.blocks
  count = omega (arith, s.whole)

  pub root_is : root_key (block_count image) ≡ root t
  root_is = ap root_key count

  pub inside : (block : ℕ) (duty : Duty) → HasDuty t l block duty → IsInside (block_count image) block
  inside block duty h = let i = s.fits.inside block duty h in (i.0, omega (arith, i.1, count))

  pub page_is : (p : ℕ) → p < length l.pages → page_block image p ≡ slice_index l.pages p
  page_is p m = ap (λ (b : ℕ). long image b (79 + p)) root_is ∙ s.root_fields.pages p m

  pub page_within : (p : ℕ) → p < pages_of image → p < length l.pages
  page_within p m = omega (arith, m, s.fits.pages, count)

  pub page_serves : (p : ℕ) → p < pages_of image → HasDuty t l (page_block image p) (Duty.Page p)
  page_serves p m = slice_get-index l.pages p (page_within p m) ∙ ap Some (sym (page_is p (page_within p m)))

  pub lawful_pages : LawfulPages image
  lawful_pages = record {
    inside = λ p m. inside (page_block image p) (Duty.Page p) (page_serves p m);
    apart = λ p q m n e.
        let also : HasDuty t l (page_block image p) (Duty.Page q) = page_serves q n ∙ ap Some (sym e) in
        let same = s.fits.one_duty (page_block image p) (Duty.Page p) (Duty.Page q) (page_serves p m) also in
        cc same;
    beside_root = λ p m e.
        let at_root : t.nodes (page_block image p) ≡ Some loose.root_node.0 = ap t.nodes (e ∙ root_is) ∙ loose.root_node.1 in
        let same = s.fits.one_duty (page_block image p) (Duty.Page p) Duty.Key (page_serves p m) (rw at_root refl) in
        cc same;
  }

  pub name_is : (k : ℕ) (node : Node) → t.nodes k ≡ Some node → name_at image k ≡ node.name
  name_is k node e = text_is image k NAME_BYTE node.name (s.nodes k node e).name

  -- the slot of a node in the image is that of its name
  pub slot_is : (k : ℕ) (node : Node) → t.nodes k ≡ Some node → slot_at image k ≡ slot (name_of t k)
  slot_is k node e = ap slot (name_is k node e) ∙ sym (rw e refl)

  -- the block of a node may be an entry's block
  pub node_block : (dir k : ℕ) (node : Node) → t.nodes k ≡ Some node → k ≢ root t → k ≢ dir → IsEntryBlock image dir k
  node_block dir k node e n m = record { inside = inside k Duty.Key (rw e refl); not_root = λ r. n (r ∙ root_is); not_dir = m; name = subst IsName (sym (name_is k node e)) (loose.name k node e) }

  entry_block : (dir k : ℕ) → Contains (entries t dir) k → IsEntryBlock image dir k
  entry_block dir k m =
      let p = (loose.listed dir k).0 m in
      let n = parent_in (t.nodes k) dir p.1 in
      node_block dir k n.0 n.1 (parent_not_root t loose.root_node k dir p.1) (λ e. own_parent t loose.root_node key k (loose.rooted k n.0 n.1) p.0 (p.1 ∙ ap Some (sym e)))

  pub in_part : (dir q k : ℕ) → Contains (in_slot t dir q) k → Contains (entries t dir) k
  in_part dir q k m = Contains-part (λ k. slot (name_of t k) == q) (entries t dir) k m

  pub slotted : (dir q k : ℕ) → Contains (in_slot t dir q) k → slot (name_of t k) ≡ q
  slotted dir q k m = eqb-true (slot (name_of t k)) q (All-contains (λ k. (slot (name_of t k) == q) ≡ true) (in_slot t dir q) k (filter_passes (λ k. slot (name_of t k) == q) (entries t dir)) m)

  pub lawful_chains : (dir : ℕ) (node : Node) (keys : List ℕ) → t.nodes dir ≡ Some node → node.content ≡ Directory keys → LawfulChains image dir (in_slot t dir)
  lawful_chains dir node keys e c = record {
    inside = inside dir Duty.Key (rw e refl);
    spelled = λ q m. s.chains dir node keys q e c m;
    once = λ q m. AllPairs-filter (λ a b. a ≢ b) (λ k. slot (name_of t k) == q) (entries t dir) (loose.once dir);
    entry = λ q k m n. entry_block dir k (in_part dir q k n);
    slotted = λ q k m n.
        let p = (loose.listed dir k).0 (in_part dir q k n) in
        let a = parent_in (t.nodes k) dir p.1 in
        slot_is k a.0 a.1 ∙ slotted dir q k n;
  }

  -- the loose key is in no chain
  pub absent : (dir : ℕ) → ¬ InChains (in_slot t dir) key
  absent dir c = ((loose.listed dir key).0 (in_part dir c.0 key c.2)).0 refl

  -- an entry is in the hash chains of one directory only
  pub one_directory : (d dir k : ℕ) → InChains (in_slot t d) k → InChains (in_slot t dir) k → d ≡ dir
  one_directory d dir k c e =
      let p = (loose.listed d k).0 (in_part d c.0 k c.2) in
      let q = (loose.listed dir k).0 (in_part dir e.0 k e.2) in
      cc (p.1, q.1)
