-- An entry inserted into a directory's hash chain or removed from it, and the tree of the image then.
use Rattle.ados_change.proofs.Common.{◌≡◌, ◌≢◌, ℕ, ◌+◌, ◌<◌, ◌≤◌, ◌⊎◌, inl, inr, List, ◌∷◌, filter, ◌==◌, Contains, Some, is_some, refl, sym, ap, ◌∙◌, subst, arith, eq-eqb, cases_eq, Contains-append_left, block_sum, long, Chained, table_entry, NEXT_IN_CHAIN, Date3, slot, SameBut, slot_at, with_last, CanInsert, CanUnlink, InsertsLast, Unlinks, link_block, link_long, slot_at-small, is_not, Node, Tree, root, entries, name_of, Directory, listed, entered, enter, stamped, Layout, in_slot, Dated, parent_in, Chained-kept, parent_of, block_count, IsInside, parent_key, same_count, same_trans, LawfulChains, Stands, directory_node, IsWritten}
use Rattle.ados_chain.proofs.Kept.{inserted-others_kept, unlinked-others_kept}
use Rattle.ados_change.proofs.Unchanged.{AtDate, sum-kept, long-kept, AtLongs, dated_longs, dated_count}
use Rattle.ados_change.proofs.Entering.{Contains-passes}
use Rattle.ados_change.proofs.Loose.{Loose, Spells, slots_other, slots_entered, slots_left, parent_not_root, l, in_list, unlisted_is_loose, node_kept, proper_is_loose, spells}
use Rattle.ados_change.proofs.Lawful.{lawful_chains, absent, one_directory, slot_is, in_part, node_block}
use Rattle.ados_change.proofs.Relisted.{IsLinkPlace, link_place, relisted_spells}
use Rattle.ados_change.proofs.Relisted.IsLinkPlace.{in_table}
use Rattle.ados_change.proofs.Reframed.{TellsOnly, node_stays, entry_stays, reframed}
use Rattle.ados_change.proofs.EntriesKept.{dated_kept, linked_kept}

module _ (image : List ℕ) (t : Tree) (l : Layout) (loose_key : ℕ) (s : Spells image t l) (loose : Loose t loose_key) (dir : ℕ) (a : Node) (keys : List ℕ) (at : t.nodes dir ≡ Some a) (holds : a.content ≡ Directory keys) where
  -- the link after entries of a hash chain of the directory
  pub place_behind : (q : ℕ) → q < 72 → (front : List ℕ) → ((k : ℕ) → Contains front k → Contains (in_slot t dir q) k) → IsLinkPlace t dir (link_block dir front) (link_long (6 + q) front)
  place_behind q m front within =
      link_place t dir dir (6 + q) front (in_table refl (omega arith) (omega arith))
      (λ k n.
      let p = (loose.listed dir k).0 (in_part image t l loose_key s loose dir q k (within k n)) in
      let b = parent_in (t.nodes k) dir p.1 in
      (b.0, b.1, parent_not_root t loose.root_node k dir p.1))

  -- an entry of the directory can be removed from its chain
  pub can_unlink : (key : ℕ) → Contains (entries t dir) key → CanUnlink image dir key
  can_unlink key m = record {
    chains = in_slot t dir;
    lawful = lawful_chains image t l loose_key s loose dir a keys at holds;
    listed = (slot (name_of t key), omega arith, Contains-passes (λ j. slot (name_of t j) == slot (name_of t key)) (entries t dir) key m (eq-eqb (slot (name_of t key)) (slot (name_of t key)) refl));
  }

-- ---- the loose key is inserted

module _ (old mid new : List ℕ) (t : Tree) (l : Layout) (key : ℕ) (s : Spells old t l) (loose : Loose t key) (dir : ℕ) (a : Node) (keys : List ℕ) (at : t.nodes dir ≡ Some a) (holds : a.content ≡ Directory keys)
    (node : Node) (at_key : t.nodes key ≡ Some node) (not_dir : key ≢ dir) where
  pub can_insert : CanInsert old dir key
  can_insert = record {
    chains = in_slot t dir;
    lawful = lawful_chains old t l key s loose dir a keys at holds;
    entry = node_block old t l key s loose dir key node at_key loose.not_root not_dir;
    absent = absent old t l key s loose dir;
  }

  module _ (inserts : InsertsLast dir key (in_slot t dir) old mid) (moment : Date3) (redated : Dated dir 105 moment mid new) where
    chains_entered : (d : ℕ) (b : Node) (ks : List ℕ) (q : ℕ) → t.nodes d ≡ Some b → b.content ≡ Directory ks → q < 72 → Chained mid NEXT_IN_CHAIN (table_entry mid d q) (in_slot (entered moment dir key t) d q)
    chains_entered d b ks q e c m = elim (cases_eq d dir) [
      | inl same ↦
          let lists : with_last (in_slot t dir) (slot_at old key) key q ≡ in_slot (entered moment dir key t) dir q = ap (λ (p : ℕ). with_last (in_slot t dir) p key q) (slot_is old t l key s loose key node at_key) ∙ sym (slots_entered t dir moment a at key (loose.rising dir) q) in
          subst (λ (i : ℕ). Chained mid NEXT_IN_CHAIN (table_entry mid i q) (in_slot (entered moment dir key t) i q)) (sym same)
          (subst (Chained mid NEXT_IN_CHAIN (table_entry mid dir q)) lists (inserts.lawful.spelled q m))
      | inr other ↦
          let kept = inserted-others_kept old mid dir key (in_slot t dir) inserts d (in_slot t d) (lawful_chains old t l key s loose d b ks e c) other (absent old t l key s loose d) (λ k x y. other (one_directory old t l key s loose d dir k x y)) in
          subst (Chained mid NEXT_IN_CHAIN (table_entry mid d q)) (sym (slots_other t dir moment (enter (λ k. slot (name_of t k)) key (entries t dir)) d q other)) (kept.spelled q m)
    ]

    pub entered_spells : Spells new (entered moment dir key t) l
    entered_spells =
        relisted_spells old mid new t l key s loose dir a keys at holds key node at_key loose.not_root
        (link_block dir (in_slot t dir (slot_at old key))) (link_long (6 + slot_at old key) (in_slot t dir (slot_at old key))) key
        (place_behind old t l key s loose dir a keys at holds (slot_at old key) (slot_at-small old key) (in_slot t dir (slot_at old key)) (λ k m. m)) inserts.relinks moment redated
        (enter (λ k. slot (name_of t k)) key (entries t dir)) chains_entered

-- ---- an entry is removed

module _ (old mid new : List ℕ) (t : Tree) (l : Layout) (loose_key : ℕ) (s : Spells old t l) (loose : Loose t loose_key) (from : ℕ) (a : Node) (keys : List ℕ) (at : t.nodes from ≡ Some a) (holds : a.content ≡ Directory keys)
    (key : ℕ) (node : Node) (at_key : t.nodes key ≡ Some node) (below : node.parent ≡ Some from)
    (unlinks : Unlinks from key (in_slot t from) old mid) (moment : Date3) (redated : Dated from 105 moment mid new) where
  chains_left : (d : ℕ) (b : Node) (ks : List ℕ) (q : ℕ) → t.nodes d ≡ Some b → b.content ≡ Directory ks → q < 72 → Chained mid NEXT_IN_CHAIN (table_entry mid d q) (in_slot (listed moment from (filter (is_not key) (entries t from)) t) d q)
  chains_left d b ks q e c m = elim (cases_eq d from) [
    | inl same ↦
        subst (λ (i : ℕ). Chained mid NEXT_IN_CHAIN (table_entry mid i q) (in_slot (listed moment from (filter (is_not key) (entries t from)) t) i q)) (sym same)
        (subst (Chained mid NEXT_IN_CHAIN (table_entry mid from q)) (sym (slots_left t from moment a at key q)) (unlinks.lawful.spelled q m))
    | inr other ↦
        let kept = unlinked-others_kept old mid from key (in_slot t from) unlinks d (in_slot t d) (lawful_chains old t l loose_key s loose d b ks e c) other (λ k x y. other (one_directory old t l loose_key s loose d from k x y)) in
        subst (Chained mid NEXT_IN_CHAIN (table_entry mid d q)) (sym (slots_other t from moment (filter (is_not key) (entries t from)) d q other)) (kept.spelled q m)
  ]

  pub left_spells : Spells new (listed moment from (filter (is_not key) (entries t from)) t) l
  left_spells =
      relisted_spells old mid new t l loose_key s loose from a keys at holds key node at_key (parent_not_root t loose.root_node key from (rw at_key below))
      (link_block from unlinks.front) (link_long (6 + slot_at old key) unlinks.front) (long old key NEXT_IN_CHAIN)
      (place_behind old t l loose_key s loose from a keys at holds (slot_at old key) (slot_at-small old key) unlinks.front
      (λ k m. subst (λ (xs : List ℕ). Contains xs k) (sym unlinks.split) (Contains-append_left unlinks.front (key ∷ unlinks.back) k m)))
      unlinks.relinks moment redated (filter (is_not key) (entries t from)) chains_left

-- ---- the disk date

module _ (old new : List ℕ) (t : Tree) (l : Layout) (key : ℕ) (s : Spells old t l) (loose : Loose t key) (moment : Date3) (r : Dated (root t) 118 moment old new) where
  abbrev W : ℕ → ℕ → Type 0
  W = AtDate (root t) 118

  change : SameBut (AtLongs W) old new
  change = dated_longs (root t) 118 moment old new r

  tells : TellsOnly t W
  tells = record {
    of_key = λ b j w. ap is_some (ap t.nodes w.0 ∙ loose.root_node.1);
    telling = λ b j w. elim (w.1) [ inl e ↦ inl e | inr e ↦ inr (inr (inr (inl (omega (arith, e.0), e.1)))) ];
  }

  free : (b j : ℕ) → j ≢ 5 → (j < 118) ⊎ (121 ≤ j) → ¬ W b j
  free b j n o w = elim (w.1) [ inl e ↦ n e | inr e ↦ elim o [ inl x ↦ omega (arith, e.0, x) | inr x ↦ omega (arith, e.1, x) ] ]

  summed : (k : ℕ) → block_sum old k ≡ 0 → block_sum new k ≡ 0
  summed k was = elim (cases_eq k (root t)) [
    | inl e ↦ ap (block_sum new) e ∙ r.sum (ap (block_sum old) (sym e) ∙ was)
    | inr n ↦ sum-kept W old new change k (λ j m w. n w.0) ∙ was
  ]

  pub stamped_spells : Spells new (stamped moment t) l
  stamped_spells =
      reframed old new t l s loose W tells change t.nodes moment
      (record { same_keys = λ k. refl; was_file = λ k a bytes e c. (a, e, c); same_size = λ d k. refl })
      r.date
      (λ k a e. let g = s.nodes k a e in node_stays old new t l s loose W tells change k a (loose.name k a e) (λ j p q. free k j (omega arith) (inl (omega arith))) (summed k g.sum) g)
      (λ k d a e p. entry_stays old new t l s loose W tells change k d a (loose.comment k a e) (λ j p q. free k j (omega arith) (inl (omega arith))) (free k 125 (omega arith) (inr (omega arith))) (s.entries k d a e p))
      (λ d a keys q e c m.
      let link : (b j : ℕ) → j < 128 → j ≢ 5 → (j < 118) ⊎ (121 ≤ j) → long new b j ≡ long old b j = λ b j n o p. long-kept W old new change b j n (free b j o p) in
      subst (λ (first : ℕ). Chained new NEXT_IN_CHAIN first (in_slot t d q)) (sym (link d (6 + q) (omega (arith, m)) (omega arith) (inl (omega (arith, m)))))
      (Chained-kept old new NEXT_IN_CHAIN (table_entry old d q) (in_slot t d q) (λ b n. link b 124 (omega arith) (omega arith) (inr (omega arith))) (s.chains d a keys q e c m)))

-- ---- an entry leaves its directory's list: the first steps of a removal and of a move

module _ (old : List ℕ) (t : Tree) (st : Stands old t) (moment : Date3) (key dir : ℕ) (listed : parent_of t key ≡ Some dir) where
  s : Spells old t st.layout
  s = spells old t st

  whole_loose : Loose t 0
  whole_loose = proper_is_loose t st.proper

  -- the entry's node
  abbrev pub entry : (a : Node) × (t.nodes key ≡ Some a) × (a.parent ≡ Some dir)
  entry = parent_in (t.nodes key) dir listed

  pub directory : (a : Node) × (keys : List ℕ) × (t.nodes dir ≡ Some a) × (a.content ≡ Directory keys)
  directory = directory_node t st.proper dir key (in_list t st.proper key dir listed moment)

  pub in_tree : IsInside t.blocks key
  in_tree = st.proper.inside key entry.0 entry.1

  pub key_inside : key < block_count old
  key_inside = omega (arith, in_tree.1, st.whole)

  pub no_root : key ≢ root t
  no_root = parent_not_root t st.proper.root_node key dir listed

  chains : LawfulChains old dir (in_slot t dir)
  chains = lawful_chains old t st.layout 0 s whole_loose dir directory.0 directory.1 directory.2 directory.3

  -- the tree without the entry in its directory's list
  abbrev pub out : Tree
  out = l t st.proper key dir listed moment

  pub out_is_loose : Loose out key
  out_is_loose = unlisted_is_loose t st.proper key dir listed moment

  pub out_entry : out.nodes key ≡ Some entry.0
  out_entry = node_kept t st.proper key dir listed moment ∙ entry.1

  module _ (from : ℕ) (from_is : from ≡ parent_key old key) where
    is_from : from ≡ dir
    is_from = from_is ∙ (st.entries key dir entry.0 entry.1 entry.2).parent

    pub unlinkable : CanUnlink old from key
    unlinkable = subst (λ (f : ℕ). CanUnlink old f key) (sym is_from) (can_unlink old t st.layout 0 s whole_loose dir directory.0 directory.1 directory.2 directory.3 key (in_list t st.proper key dir listed moment))

    module _ (m1 : List ℕ) (unlinks : (chains : ℕ → List ℕ) → LawfulChains old from chains → Unlinks from key chains old m1) where
      unlinked : Unlinks dir key (in_slot t dir) old m1
      unlinked = subst (λ (f : ℕ). (chains : ℕ → List ℕ) → LawfulChains old f chains → Unlinks f key chains old m1) is_from unlinks (in_slot t dir) chains

      pub from_inside : from < block_count m1
      from_inside = subst (λ (f : ℕ). f < block_count m1) (sym is_from) (unlinked.lawful.inside.1)

      -- the position of the link to the entry
      link_at : IsLinkPlace t dir (link_block dir unlinked.front) (link_long (6 + slot_at old key) unlinked.front)
      link_at =
          place_behind old t st.layout 0 s whole_loose dir directory.0 directory.1 directory.2 directory.3 (slot_at old key) (slot_at-small old key) unlinked.front
          (λ k m. subst (λ (xs : List ℕ). Contains xs k) (sym unlinked.split) (Contains-append_left unlinked.front (key ∷ unlinked.back) k m))

      module _ (m2 : List ℕ) (touched : Dated from 105 moment m1 m2) where
        pub count_out : block_count m2 ≡ t.blocks
        count_out = dated_count from 105 moment m1 m2 touched ∙ same_count _ old m1 unlinked.relinks.rest ∙ omega (arith, st.whole)

        pub out_spells : Spells m2 out st.layout
        out_spells = left_spells old m1 m2 t st.layout 0 s whole_loose dir directory.0 directory.1 directory.2 directory.3 key entry.0 entry.1 entry.2 unlinked moment (subst (λ (f : ℕ). Dated f 105 moment m1 m2) is_from touched)

        -- no bitmap block is written
        pub out_written : (last : List ℕ) → SameBut (IsWritten old t st last) old m2
        out_written last =
            same_trans (IsWritten old t st last) old m1 m2
            (linked_kept old t st last t dir (link_block dir unlinked.front) (link_long (6 + slot_at old key) unlinked.front) (long old key NEXT_IN_CHAIN) key directory.0 directory.1 directory.2 directory.3 (λ k x e n. inl (x, e, n)) link_at
            (inl (entry.0, entry.1, no_root)) old m1 unlinked.relinks)
            (dated_kept old t st last dir directory.0 directory.2 moment m1 m2 (subst (λ (f : ℕ). Dated f 105 moment m1 m2) is_from touched))
