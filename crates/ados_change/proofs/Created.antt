-- The steps that make an entry: a free block is allocated and filled, and the entry is listed. The image represents the
-- tree with it.
use Rattle.ados_change.proofs.Common.{no_data, ◌≡◌, ◌≢◌, ℕ, ◌+◌, ◌*◌, ◌/◌, ◌<◌, inl, inr, List, false, Some, refl, sym, ap, ◌∙◌, subst, arith, zero, suc, ◌-◌, ◌≤◌, ◌⊎◌, min, ◌∷◌, length, slice_index, [], cases_eq, OnlyBlock, SameBut, IsInside, block_count, has_free_bit, root_key, HasFreeBit, same_count, same_trans, MapPlace, BitChanged, IsLowestFree, NoneFreeBelow, page_of, pages_of, Date3, slot_at-small, LawfulChains, slot_at, CanInsert, InsertsLast, link_block, link_long, bit_of_inside, InImage, made, with_node, new_node, Stands, Duty, HasDuty, in_slot, Node, Tree, root, IsUnused, size_in, KeepsRest, TakesLowest, KeepsPastEnd, CanMake, IsEmpty, content_of, IsNewEntry, Dated, nil_from_length, Chained, bytes_at, long, table_entry, NEXT_IN_CHAIN, InBlock, page_block, data_count, extension_count, Content, HasFile, HasNode, HasEntry, Directory, File, entered, slice_get-index, IsChanged, IsWritten, enter, entries, name_of, slot, is_some, IsSome, KeepsKinds, option_map, IsImage}
use Rattle.ados_change.proofs.Making.{zero_long, no_duty, unused, AtLink, dated_there, linked_there, stamped_there, takes_key}
use Rattle.ados_change.proofs.Unchanged.{at_root, dated_count}
use Rattle.ados_change.proofs.Writable.{lawful_pages}
use Rattle.ados_change.proofs.FilesStay.{past_end_trans}
use Rattle.ados_change.specs.declared.node_kind.NodeKind.{NodeKind}
use Rattle.ados_change.proofs.Changed.{listed_file, made_here, nodes_here, nodes_other, changed_keeps, each_keeps, relisted}
use Rattle.ados_model.proofs.Nodes.{entry_node}
use Rattle.ados_model.specs.Parts.{name_in}
use Rattle.ados_model.specs.Tree.{entries_in}
use Rattle.std.specs.Prelude.{Contains, None, Option, filter, ◌==◌}
use Rattle.ados_chain.specs.Links.{IsNear}
use Rattle.ados_chain.proofs.Chaining.{chains_same}
use Rattle.ados_change.proofs.Entering.{filter_same}
use Rattle.ados_change.proofs.Lawful.{lawful_chains, slot_is, page_is, page_within, count}
use Rattle.ados_change.proofs.EntriesKept.{changed_kept, page_changed, written_changed, IsKnown, dated_kept, filled_kept, linked_kept, marked_kept, stamped_kept}
use Rattle.ados_change.proofs.Leaving.{can_insert, place_behind, entered_spells, stamped_spells}
use Rattle.ados_change.proofs.Loose.{Loose, layout_is, proper_is_loose, unused_is_loose, Spells, spells, stands}
use Rattle.ados_change.proofs.ProperChanges.{IsDirectoryNode, begun_is_loose, dir_not_key, directory_at, entered_proper, made_is_proper}
use Rattle.ados_change.proofs.Relisted.{IsLinkPlace}
use Rattle.ados_change.proofs.EntriesUntold.{HasPages, IsOffMap, bit_past_end, freed_stays, off_marks, off_past_end, old_pages, pages_after, untold_kept, written_off}
use Rattle.ados_data.proofs.Marks.{mark_kept}
use Rattle.ados_change.proofs.Remarked.{IsAlone, Remarks, filled_remarks, marked_remarks, remarked}
use Rattle.ados_change.specs.declared.node_kind.NodeKind.TheVariants as kinds
use Rattle.ados_change.proofs.Uses.{has_key, uses_laid}

no_text : (image : List ℕ) (b : ℕ) → bytes_at image b 329 0 ≡ []
unfolding bytes_at
no_text image b = refl

module _ (old m1 m2 : List ℕ) (t : Tree) (st : Stands old t) (moment : Date3) (dir key : ℕ) (name : List ℕ) (kind : NodeKind) (can : CanMake t dir name)
    (low : IsLowestFree old key) (taken : BitChanged old key false m1) (filled : OnlyBlock key m1 m2) (entry : IsNewEntry m2 key dir name (content_of kind) moment) where
  abbrev new : Node
  new = new_node moment dir name (content_of kind)

  no_contents : IsEmpty (content_of kind) × (size_in (Some (content_of kind)) ≡ 0)
  no_contents = go kind
    where
      go : (k : NodeKind) → IsEmpty (content_of k) × (size_in (Some (content_of k)) ≡ 0)
      go kinds.Directory = (refl, refl)
      go kinds.File = (refl, refl)

  fresh : IsUnused t key
  fresh = unused old t st key low

  s : Spells old t st.layout
  s = spells old t st

  first_loose : Loose t key
  first_loose = unused_is_loose t key st.proper fresh.no_node

  no_duties : (duty : Duty) → ¬ HasDuty t st.layout key duty
  no_duties = no_duty old t st.layout s key fresh.inside low.free

  alone : IsAlone t st.layout key (Some new)
  alone = record {
    inside = fresh.inside;
    only = λ duty m. absurd (no_duties duty m);
    same_list = let none = fresh.no_node in rw none no_contents.0;
    size_after = no_contents.1;
    size_before = let none = fresh.no_node in rw none refl;
  }

  page_there : (p : ℕ) → p < pages_of old → page_block old p ≡ slice_index st.layout.pages p
  page_there p m = page_is old t st.layout key s first_loose p (page_within old t st.layout key s first_loose p m)

  key_no_page : (p : ℕ) → p < length st.layout.pages → slice_index st.layout.pages p ≢ key
  key_no_page p m e = no_duties (Duty.Page p) (slice_get-index st.layout.pages p m ∙ ap Some e)

  -- ---- the mark

  mark_end : KeepsPastEnd old m1
  mark_end = bit_past_end old t st old m1 key false (old_pages old t st) (lawful_pages old t st) low.inside taken

  count_m1 : block_count m1 ≡ block_count old
  count_m1 = same_count (MapPlace old key) old m1 taken.rest

  marked_map : HasPages old t st m1
  marked_map = pages_after old t st old m1 count_m1 mark_end (old_pages old t st)

  mark_after : (b : ℕ) → IsInside t.blocks b → has_free_bit m2 b ≡ has_free_bit m1 b
  mark_after b i =
      mark_kept (InBlock key) m1 m2 filled (omega (arith, count_m1, st.whole, st.proper.size.1))
      (λ k e. first_loose.not_root (sym e ∙ ap root_key (count_m1 ∙ count old t st.layout key s first_loose)))
      (λ p k m e. let q : p < pages_of old = omega (arith, m, count_m1) in key_no_page p (page_within old t st.layout key s first_loose p q) (sym (page_there p q) ∙ sym (mark_end.pages p q) ∙ e))
      b (bit_of_inside m1 b (i.0, omega (arith, i.1, count_m1, st.whole)))

  remarks : Remarks old t st.layout key (Some new) m2
  remarks = filled_remarks old m1 m2 t st.layout key (Some new) key_no_page mark_after fresh.inside (marked_remarks old m1 t st.layout key s first_loose fresh.inside (Some new) taken) filled

  -- ---- the bytes of the block

  -- bytes outside the fields of a new entry
  zero_at : (i : ℕ) → ((2 ≤ i) × (i < 5)) ⊎ (((6 ≤ i) × (i < 105)) ⊎ ((i ≡ 124) ⊎ (i ≡ 126))) → long m2 key i ≡ 0
  zero_at i o = zero_long m2 key i (λ k p q. entry.zeros k (omega (arith, o, q)) (λ f. let short = can.valid.short in omega (arith, p, q, o, f, short)))

  no_blocks : st.layout.file_data key ≡ []
  no_blocks = nil_from_length (st.layout.file_data key) (st.fits.file_data key ∙ ap (data_count t.format) alone.size_before ∙ no_data t.format)

  node_here : (a : Node) → Some new ≡ Some a → HasNode m2 key a
  node_here a e =
      let same : new ≡ a = cc e in
      subst (HasNode m2 key) same (record { primary = entry.primary; sum = entry.summed; name = entry.named; date = entry.date })

  entry_here : (a : Node) (d : ℕ) → Some new ≡ Some a → a.parent ≡ Some d → HasEntry m2 key a d
  entry_here a d e p =
      let same : new ≡ a = cc e in
      let dirs : dir ≡ d = let q : Some dir ≡ Some d = ap (λ (n : Node). n.parent) same ∙ p in cc q in
      subst (λ (n : Node). HasEntry m2 key n d) same (subst (HasEntry m2 key new) dirs (record {
        key_field = entry.key_field;
        protection_field = zero_at 80 (inr (inl (omega arith, omega arith)));
        comment = record { counted = entry.zeros 328 (omega arith) (λ f. omega (arith, f)); follows = no_text m2 key };
        parent = entry.parent;
        secondary = entry.secondary;
      }))

  slots_here : (a : Node) (keys : List ℕ) (q : ℕ) → Some new ≡ Some a → a.content ≡ Directory keys → q < 72 → Chained m2 NEXT_IN_CHAIN (table_entry m2 key q) (in_slot t key q)
  slots_here a keys q e c m = let none = fresh.no_node in rw none (zero_at (6 + q) (inr (inl (omega arith, omega (arith, m)))))

  file_here : (a : Node) (bytes : List ℕ) → Some new ≡ Some a → a.content ≡ File bytes → HasFile m2 t.format key (st.layout.file_data key) (st.layout.extensions key) bytes
  file_here a bytes e c =
      let same : new ≡ a = cc e in
      let short : length bytes ≡ 0 = ap (λ (d : Content). size_in (Some d)) (sym c ∙ ap (λ (n : Node). n.content) (sym same)) ∙ no_contents.1 in
      let none : bytes ≡ [] = nil_from_length bytes short in
      rw (none, no_blocks, nil_from_length (st.layout.extensions key) (st.fits.extensions key ∙ ap (λ (xs : List ℕ). extension_count (length xs)) no_blocks)) (record {
        size = zero_at 81 (inr (inl (omega arith, omega arith)));
        chain = zero_at 126 (inr (inr (inr refl)));
        extension = λ i m. absurd (omega (arith, m));
        counts = λ i m. first_count i m;
        pointers = λ i m. absurd (omega (arith, m));
        contents = λ i m. absurd (omega (arith, m));
        ofs_chain = λ o. zero_at 4 (inl (omega arith, omega arith));
        ofs_data = λ o i m. absurd (omega (arith, m));
      })
    where
      first_count : (i : ℕ) → i ≤ 0 → long m2 (slice_index (key ∷ []) i) 2 ≡ min 72 (0 - 72 * i)
      first_count zero m = zero_at 2 (inl (omega arith, omega arith))
      first_count (suc i) m = absurd (omega (arith, m))

  -- ---- the tree with the new node

  abbrev begun : Tree
  begun = with_node key (Some new) t

  spelled : Spells m2 begun st.layout
  spelled = remarked old m2 t st.layout key (Some new) s first_loose alone remarks node_here entry_here slots_here file_here

  loose : Loose begun key
  loose = begun_is_loose t moment dir key name (content_of kind) st.proper can fresh no_contents.0

  directory : IsDirectoryNode t dir
  directory = directory_at t dir can.directory

  apart : dir ≢ key
  apart = dir_not_key t moment dir key name (content_of kind) st.proper can fresh no_contents.0

  not_dir : key ≢ dir
  not_dir e = apart (sym e)

  dir_node : begun.nodes dir ≡ Some directory.node
  dir_node = nodes_other key (Some new) t dir apart ∙ directory.at

  pub insertable : CanInsert m2 dir key
  insertable = can_insert m2 m2 m2 begun st.layout key spelled loose dir directory.node directory.keys dir_node directory.content new (nodes_here key (Some new) t) not_dir

  slots_same : (s : ℕ) → in_slot begun dir s ≡ in_slot t dir s
  slots_same s =
      ap (filter (λ k. slot (name_of begun k) == s)) (ap (λ (o : Option Node). entries_in (option_map (λ (node : Node). node.content) o)) (nodes_other key (Some new) t dir apart))
      ∙ filter_same (λ k. slot (name_of begun k) == s) (λ k. slot (name_of t k) == s) (entries t dir) (λ k c. ap (λ (o : Option Node). slot (name_in o) == s) (nodes_other key (Some new) t k (no_entry k c)))
    where
      no_entry : (k : ℕ) → Contains (entries t dir) k → k ≢ key
      no_entry k c e =
          let a = entry_node t st.proper dir k c in
          let both : Some a.0 ≡ None = sym a.1 ∙ ap t.nodes e ∙ fresh.no_node in
          absurd (cc both)

  -- an entry in the slot of the new name is in the chain of the new entry
  pub near_there : (near : ℕ) → IsNear dir (in_slot t dir (slot name)) near → (chains : ℕ → List ℕ) → LawfulChains m2 dir chains → IsNear dir (chains (slot_at m2 key)) near
  near_there near n chains h =
      let lawful = lawful_chains m2 begun st.layout key spelled loose dir directory.node directory.keys dir_node directory.content in
      let own : slot_at m2 key ≡ slot name = slot_is m2 begun st.layout key spelled loose key new (nodes_here key (Some new) t) ∙ ap (λ (o : Option Node). slot (name_in o)) (nodes_here key (Some new) t) in
      let same : chains (slot_at m2 key) ≡ in_slot t dir (slot name) = chains_same m2 dir chains (in_slot begun dir) h lawful (slot_at m2 key) (slot_at-small m2 key) ∙ slots_same (slot_at m2 key) ∙ ap (in_slot t dir) own in
      elim n [ inl e ↦ inl e | inr m ↦ inr (subst (λ (xs : List ℕ). Contains xs near) (sym same) m) ]

  abbrev slot_key : ℕ
  slot_key = slot_at m2 key

  link_at : IsLinkPlace begun dir (link_block dir (in_slot begun dir slot_key)) (link_long (6 + slot_key) (in_slot begun dir slot_key))
  link_at = place_behind m2 begun st.layout key spelled loose dir directory.node directory.keys dir_node directory.content slot_key (slot_at-small m2 key) (in_slot begun dir slot_key) (λ k m. m)

  module _ (m3 : List ℕ) (inserts : (chains : ℕ → List ℕ) → LawfulChains m2 dir chains → InsertsLast dir key chains m2 m3) where
    inserted : InsertsLast dir key (in_slot begun dir) m2 m3
    inserted = inserts (in_slot begun dir) (lawful_chains m2 begun st.layout key spelled loose dir directory.node directory.keys dir_node directory.content)

    pub room : dir < block_count m3
    room = inserted.lawful.inside.1

    module _ (m4 m5 : List ℕ) (dated : Dated dir 105 moment m3 m4) (stamp : Dated (root_key (block_count m4)) 118 moment m4 m5) where
      restamped : Dated (root t) 118 moment m4 m5
      restamped = at_root m4 m5 t moment (dated_count dir 105 moment m3 m4 dated ∙ same_count _ m2 m3 inserted.relinks.rest ∙ omega (arith, spelled.whole)) stamp

      after : Spells m5 (made moment dir key name (content_of kind) t) st.layout
      after =
          let listed = entered_spells m2 m3 m4 begun st.layout key spelled loose dir directory.node directory.keys dir_node directory.content new (nodes_here key (Some new) t) not_dir inserted moment dated in
          let proper = proper_is_loose (entered moment dir key begun) (entered_proper t moment dir key name (content_of kind) st.proper can fresh no_contents.0) in
          stamped_spells m4 m5 (entered moment dir key begun) st.layout 0 listed proper moment restamped

      pub created : Stands m5 (made moment dir key name (content_of kind) t)
      created = stands m5 (made moment dir key name (content_of kind) t) st.layout (made_is_proper t moment dir key name (content_of kind) st.proper can fresh no_contents.0) after

      laid : created.layout ≡ st.layout
      unfolding created
      laid = layout_is m5 (made moment dir key name (content_of kind) t) st.layout (made_is_proper t moment dir key name (content_of kind) st.proper can fresh no_contents.0) after

      -- ---- what is written

      in_use : ¬ HasFreeBit m5 key
      in_use free = after.marked_free key fresh.inside free (Duty.Key, made_here moment dir key name (content_of kind) t)

      known : (k : ℕ) (x : Node) → begun.nodes k ≡ Some x → k ≢ root t → IsKnown old t st m5 k
      known k x e n = elim (cases_eq k key) [
        | inl same ↦ subst (IsKnown old t st m5) (sym same) (inr (fresh.inside.0, in_use, no_duties))
        | inr other ↦ inl (x, sym (nodes_other key (Some new) t k other) ∙ e, n)
      ]

      -- no bitmap block is written after the mark
      beside_map : SameBut (IsWritten old t st m5) m1 m5
      beside_map =
          same_trans (IsWritten old t st m5) m1 m4 m5
          (same_trans (IsWritten old t st m5) m1 m3 m4
          (same_trans (IsWritten old t st m5) m1 m2 m3
          (filled_kept old t st m5 key fresh.inside.0 in_use no_duties m1 m2 filled)
          (linked_kept old t st m5 begun dir (link_block dir (in_slot begun dir slot_key)) (link_long (6 + slot_key) (in_slot begun dir slot_key)) key key directory.node directory.keys directory.at directory.content known link_at
          (inr (fresh.inside.0, in_use, no_duties)) m2 m3 inserted.relinks))
          (dated_kept old t st m5 dir directory.node directory.at moment m3 m4 dated))
          (stamped_kept old t st m5 moment m4 m5 restamped)

      created_changed : SameBut (IsChanged old t st m5) old m5
      created_changed = same_trans (IsChanged old t st m5) old m1 m5 (page_changed old t st m5 old m1 (marked_kept old t st m5 key false old m1 ((old_pages old t st).serves (page_of key) (omega (arith, low.inside.0, low.inside.1))) taken)) (written_changed old t st m5 m1 m5 beside_map)

      -- ---- the bitmap

      off_map : SameBut (IsOffMap old t st) m1 m5
      off_map = written_off old t st m5 m1 m5 beside_map

      other_mark : (b : ℕ) → InImage old b → b ≢ key → has_free_bit m5 b ≡ has_free_bit old b
      other_mark b inside n = off_marks old t st m1 m5 marked_map off_map b (bit_of_inside m1 b (inside.0, omega (arith, inside.1, count_m1))) ∙ taken.others b (bit_of_inside old b inside) n

      created_lowest : TakesLowest old m5
      created_lowest =
          takes_key m2 m5 key dir name (content_of kind) moment entry
          (same_trans (AtLink key) m2 m4 m5
          (same_trans (AtLink key) m2 m3 m4
          (linked_there key dir t apart loose.not_root begun (link_block dir (in_slot begun dir slot_key)) (link_long (6 + slot_key) (in_slot begun dir slot_key)) key link_at m2 m3 inserted.relinks)
          (dated_there key dir t apart loose.not_root moment m3 m4 dated))
          (stamped_there key dir t apart loose.not_root moment m4 m5 restamped))
          old t low loose.not_root other_mark created

      -- each node but the new one was there
      was_there : (k : ℕ) → IsSome ((made moment dir key name (content_of kind) t).nodes k) → IsSome (t.nodes k) ⊎ HasFreeBit old k
      was_there k m = elim (cases_eq k key) [
        | inl e ↦ inr (ap (has_free_bit old) e ∙ low.free)
        | inr n ↦
            let keys = enter (λ j. slot (name_of begun j)) key (entries begun dir) in
            inl (sym (changed_keeps is_some (relisted moment keys) dir begun (each_keeps is_some (relisted moment keys) (λ a. refl)) k ∙ ap is_some (nodes_other key (Some new) t k n)) ∙ m)
      ]

      was_file : KeepsKinds old m5
      was_file file is = elim (cases_eq file key) [
        | inl e ↦ inr (ap (has_free_bit old) e ∙ low.free)
        | inr n ↦
            let c = is (made moment dir key name (content_of kind) t) created in
            let keys = enter (λ j. slot (name_of begun j)) key (entries begun dir) in
            inl (has_key old t st file (sym (ap (option_map (λ (a : Node). a.content)) (nodes_other key (Some new) t file n)) ∙ listed_file moment dir keys begun file c.0 c.1))
      ]

      pub created_keeps : IsImage m5 → KeepsRest old m5
      created_keeps is = record {
        kept = changed_kept old m5 t st created_changed;
        lowest = created_lowest;
        freed = λ b inside free. freed_stays old m5 t st created_changed b inside (sym (other_mark b inside (λ e. in_use (subst (HasFreeBit m5) e free))) ∙ free) free;
        untold = untold_kept old m5 t (made moment dir key name (content_of kind) t) st after created.proper created_changed
            (past_end_trans old m1 m5 count_m1 mark_end (off_past_end old t st m1 m5 marked_map off_map));
        uses = uses_laid old m5 t (made moment dir key name (content_of kind) t) st created laid was_there (λ b. refl);
        kinds = was_file;
        bytes = λ was. is;
      }

      -- the key was the lowest free block, and no block became free
      pub created_below : NoneFreeBelow m5 key
      created_below k inside below = other_mark k (subst (λ (n : ℕ). IsInside (n / 512) k) created_changed.same_length inside) (λ e. omega (arith, below, e)) ∙ low.lowest k inside.0 below
