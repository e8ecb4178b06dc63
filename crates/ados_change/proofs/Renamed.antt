-- An entry in no list gets another name and directory: the image represents the tree with them.
use Rattle.ados_change.proofs.Common.{◌≡◌, ◌≢◌, ℕ, ◌+◌, ◌/◌, ◌<◌, ◌≤◌, ◌⊎◌, inl, inr, List, length, Option, Some, is_some, option_map, refl, sym, ap, ◌∙◌, subst, arith, block_sum, long, Chained, HasText, table_entry, parent_key, COMMENT_BYTE, NAME_BYTE, NEXT_IN_CHAIN, same_weaken, IsName, Node, Tree, root, size_in, Directory, changed, Layout, HasNode, HasEntry, in_slot, SameBut, AtTitle, Titled, Chained-kept, block_count, byte_at, root_key, HasFreeBit, same_count, same_trans, Date3, slot_at-small, LawfulChains, slot_at, CanInsert, InsertsLast, Unlinks, link_block, link_long, InImage, entered, renamed, KeepsRest, TakesNone, Stands, CanRename, Dated, stamped, IsChanged, IsWritten, KeepsAfterName, enter, entries, name_of, slot, IsSome, content_at, File, Content, IsImage}
use Rattle.ados_change.proofs.Unchanged.{AtLongs, sum-kept, long-kept, at_root, dated_count}
use Rattle.ados_change.proofs.Changed.{changed_keeps, each_keeps, listed_file, was, nodes_other, relisted}
use Rattle.ados_change.proofs.Loose.{Loose, Spells, slots_beside, kept, layout_is, left_is, proper_is_loose, stands}
use Rattle.ados_change.proofs.Reframed.{TellsOnly, first_kept, last_kept, text_stays, date_stays, node_stays, entry_stays, reframed}
use Rattle.ados_change.proofs.Leaving.{entry, in_tree, no_root, out, out_is_loose, out_entry, count_out, out_spells, out_written, place_behind, can_insert, entered_spells, stamped_spells}
use Rattle.ados_change.proofs.Keeping.{none_taken}
use Rattle.ados_change.proofs.Lawful.{lawful_chains}
use Rattle.ados_change.proofs.EntriesKept.{behind_name, changed_kept, written_changed, IsKnown, dated_kept, linked_kept, stamped_kept, titled_kept}
use Rattle.ados_change.proofs.ProperChanges.{dir_is_other, directory_at, moved_here, moved, moved_is_loose, moved_entered_proper, into_directory, renamed_is_proper}
use Rattle.ados_change.proofs.EntriesUntold.{keeps_freed, marks_stay, past_end, untold_kept}
use Rattle.ados_change.proofs.Uses.{has_key, uses_laid}

module _ (old new : List ℕ) (t : Tree) (lay : Layout) (key dir : ℕ) (name : List ℕ) (s : Spells old t lay) (loose : Loose t key) (entry : Node) (from : ℕ) (at : t.nodes key ≡ Some entry) (below : entry.parent ≡ Some from) (valid : IsName name) (r : Titled key dir name old new) where
  -- the longs of an entry's name, directory and checksum
  abbrev W : ℕ → ℕ → Type 0
  W b j = (b ≡ key) × ((j ≡ 5) ⊎ (((108 ≤ j) × (j < 116)) ⊎ (j ≡ 125)))

  change : SameBut (AtLongs W) old new
  change = same_weaken (AtTitle key (length name)) (AtLongs W) old new (λ b i w. (w.0, elim (w.1) [ inl e ↦ inl e | inr x ↦ elim x [ inl y ↦ inr (inl (omega (arith, y.0), omega (arith, y.1, valid.short))) | inr e ↦ inr (inr e) ] ])) r.rest

  abbrev titled : Node → Node
  titled node = record node { name = name; parent = Some dir }

  abbrev u : Tree
  u = changed key titled t

  tells : TellsOnly t W
  tells = record {
    of_key = λ b j w. ap is_some (ap t.nodes w.0 ∙ at);
    telling = λ b j w. elim (w.1) [ inl e ↦ inl e | inr (inl y) ↦ inr (inr (inr (inl (omega (arith, y.0), omega (arith, y.1))))) | inr (inr e) ↦ inr (inr (inr (inr (λ z. loose.not_root (sym w.0 ∙ z), omega (arith, e), omega (arith, e))))) ];
  }

  free : (b j : ℕ) → j ≢ 5 → (j < 108) ⊎ (((116 ≤ j) × (j < 125)) ⊎ (125 < j)) → ¬ W b j
  free b j n o w = omega (arith, n, o, w.1)

  away : (b j : ℕ) → b ≢ key → ¬ W b j
  away b j n w = n w.0

  abbrev size_at : Option Node → ℕ
  size_at o = size_in (option_map (λ node. node.content) o)

  node_after : (k : ℕ) (a : Node) → u.nodes k ≡ Some a → HasNode new k a
  node_after k a e =
      let w = was titled key t k a e in
      let g = s.nodes k w.old w.at in
      elim (w.how) [
        | inl h ↦ subst (HasNode new k) (sym h.1) (node_stays old new t lay s loose W tells change k w.old (loose.name k w.old w.at) (λ j p q. away k j h.0) (sum-kept W old new change k (λ j m. away k j h.0) ∙ g.sum) g)
        | inr h ↦ subst (HasNode new k) (sym h.1) (record {
          primary = first_kept old new t lay s loose W tells change k 0 (omega arith) ∙ g.primary;
          sum = ap (block_sum new) h.0 ∙ r.summed;
          name = subst (λ (b : ℕ). HasText new b NAME_BYTE name) (sym h.0) r.named;
          date = date_stays old new t lay s loose W tells change k 105 (omega arith) (λ j p q. free k j (omega arith) (inl (omega arith))) ∙ g.date;
        })
      ]

  entry_after : (k d : ℕ) (a : Node) → u.nodes k ≡ Some a → a.parent ≡ Some d → HasEntry new k a d
  entry_after k d a e p =
      let w = was titled key t k a e in
      elim (w.how) [
        | inl h ↦ subst (λ (n : Node). HasEntry new k n d) (sym h.1)
            (entry_stays old new t lay s loose W tells change k d w.old (loose.comment k w.old w.at) (λ j m n. away k j h.0) (away k 125 h.0) (s.entries k d w.old w.at (sym (ap (λ (n : Node). n.parent) h.1) ∙ p)))
        | inr h ↦
            let same : w.old ≡ entry = cc (sym (ap t.nodes h.0) ∙ w.at, at) in
            let g = s.entries k from w.old w.at (ap (λ (n : Node). n.parent) same ∙ below) in
            let comment = loose.comment k w.old w.at in
            let dirs : dir ≡ d = let q : Some dir ≡ Some d = sym (ap (λ (n : Node). n.parent) h.1) ∙ p in cc q in
            subst (λ (n : Node). HasEntry new k n d) (sym h.1) (record {
              key_field = first_kept old new t lay s loose W tells change k 1 (omega arith) ∙ g.key_field;
              protection_field = long-kept W old new change k 80 (omega arith) (free k 80 (omega arith) (inl (omega arith))) ∙ g.protection_field;
              comment = text_stays old new t lay s loose W tells change k COMMENT_BYTE w.old.comment (omega (arith, comment.short)) (λ j m n. free k (j / 4) (omega arith) (inl (omega (arith, n, comment.short)))) g.comment;
              parent = ap (λ (b : ℕ). parent_key new b) h.0 ∙ r.parent ∙ dirs;
              secondary = last_kept old new t lay s loose W tells change k 127 (omega arith) (omega arith) ∙ g.secondary;
            })
      ]

  pub titled_spells : Spells new (changed key titled t) lay
  titled_spells =
      reframed old new t lay s loose W tells change u.nodes t.disk_date
      (record {
        same_keys = changed_keeps is_some titled key t (each_keeps is_some titled (λ a. refl));
        was_file = λ k a bytes e c. let w = was titled key t k a e in (w.old, w.at, elim (w.how) [ inl h ↦ ap (λ (n : Node). n.content) (sym h.1) ∙ c | inr h ↦ ap (λ (n : Node). n.content) (sym h.1) ∙ c ]);
        same_size = λ d k. changed_keeps size_at titled key t (each_keeps size_at titled (λ a. refl)) k;
      })
      (date_stays old new t lay s loose W tells change (root t) 118 (omega arith) (λ j p q. away (root t) j (λ e. loose.not_root (sym e))) ∙ s.root_fields.disk_date)
      node_after (λ k d a e p. entry_after k d a e p)
      (λ d a keys q e c m.
      let w = was titled key t d a e in
      let directory : w.old.content ≡ Directory keys = elim (w.how) [ inl h ↦ ap (λ (n : Node). n.content) (sym h.1) ∙ c | inr h ↦ ap (λ (n : Node). n.content) (sym h.1) ∙ c ] in
      let link : (b j : ℕ) → j < 128 → j ≢ 5 → (j < 108) ⊎ (((116 ≤ j) × (j < 125)) ⊎ (125 < j)) → long new b j ≡ long old b j = λ b j n o p. long-kept W old new change b j n (free b j o p) in
      subst (λ (xs : List ℕ). Chained new NEXT_IN_CHAIN (table_entry new d q) xs) (sym (slots_beside t key loose (option_map titled (t.nodes key)) (rw at refl) d q))
      (subst (λ (first : ℕ). Chained new NEXT_IN_CHAIN first (in_slot t d q)) (sym (link d (6 + q) (omega (arith, m)) (omega arith) (inl (omega (arith, m)))))
      (Chained-kept old new NEXT_IN_CHAIN (table_entry old d q) (in_slot t d q) (λ b n. link b 124 (omega arith) (omega arith) (inr (inl (omega arith, omega arith)))) (s.chains d w.old keys q w.at directory m))))

-- ---- the steps that move an entry: the image represents the tree with the entry moved

-- the entry's node, with its new name and directory
abbrev titling : ℕ → List ℕ → Node → Node
titling dir name node = record node { name = name; parent = Some dir }

module _ (old : List ℕ) (t : Tree) (st : Stands old t) (moment : Date3) (key dir : ℕ) (name : List ℕ) (can : CanRename t key dir name) (from : ℕ) (from_is : from ≡ parent_key old key)
    (m1 : List ℕ) (unlinks : (chains : ℕ → List ℕ) → LawfulChains old from chains → Unlinks from key chains old m1) (m2 : List ℕ) (touched : Dated from 105 moment m1 m2) where
  abbrev the_entry : (a : Node) × (t.nodes key ≡ Some a) × (a.parent ≡ Some can.from)
  the_entry = entry old t st moment key can.from can.listed

  count_m2 : block_count m2 ≡ t.blocks
  count_m2 = count_out old t st moment key can.from can.listed from from_is m1 unlinks m2 touched

  pub key_still : key < block_count m2
  key_still = let i = in_tree old t st moment key can.from can.listed in omega (arith, i.1, count_m2)

  -- the tree with the entry's new name and directory, before it is listed there
  abbrev there : Tree
  there = moved t moment key dir name st.proper can

  loose : Loose there key
  loose = moved_is_loose t moment key dir name st.proper can

  here : there.nodes key ≡ Some (titling dir name the_entry.0)
  here = moved_here t moment key dir name st.proper can

  into : (b : Node) × (keys : List ℕ) × (there.nodes dir ≡ Some b) × (b.content ≡ Directory keys)
  into = into_directory t moment key dir name st.proper can

  apart : key ≢ dir
  apart e = dir_is_other t moment key dir name st.proper can (sym e)

  module _ (m3 : List ℕ) (titled : Titled key dir name m2 m3) where
    spelled : Spells m3 there st.layout
    spelled =
        titled_spells m2 m3 (out old t st moment key can.from can.listed) st.layout key dir name (out_spells old t st moment key can.from can.listed from from_is m1 unlinks m2 touched)
        (out_is_loose old t st moment key can.from can.listed) the_entry.0 can.from (out_entry old t st moment key can.from can.listed) the_entry.2 can.valid titled

    pub insertable : CanInsert m3 dir key
    insertable = can_insert m3 m3 m3 there st.layout key spelled loose dir into.0 into.1 into.2 into.3 (titling dir name the_entry.0) here apart

    module _ (m4 : List ℕ) (inserts : (chains : ℕ → List ℕ) → LawfulChains m3 dir chains → InsertsLast dir key chains m3 m4) where
      inserted : InsertsLast dir key (in_slot there dir) m3 m4
      inserted = inserts (in_slot there dir) (lawful_chains m3 there st.layout key spelled loose dir into.0 into.1 into.2 into.3)

      pub dir_inside : dir < block_count m4
      dir_inside = inserted.lawful.inside.1

      module _ (m5 m6 : List ℕ) (dated : Dated dir 105 moment m4 m5) (stamp : Dated (root_key (block_count m5)) 118 moment m5 m6) where
        restamped : Dated (root t) 118 moment m5 m6
        restamped =
            at_root m5 m6 t moment
            (dated_count dir 105 moment m4 m5 dated ∙ same_count _ m3 m4 inserted.relinks.rest ∙ same_count (AtTitle key (length name)) m2 m3 titled.rest ∙ count_m2) stamp

        after : Spells m6 (renamed moment key dir name t) st.layout
        after =
            let entered_so = entered_spells m3 m4 m5 there st.layout key spelled loose dir into.0 into.1 into.2 into.3 (titling dir name the_entry.0) here apart inserted moment dated in
            let whole = stamped_spells m5 m6 (entered moment dir key there) st.layout 0 entered_so (proper_is_loose (entered moment dir key there) (moved_entered_proper t moment key dir name st.proper can)) moment restamped in
            subst (λ (u : Tree). Spells m6 (stamped moment (entered moment dir key (changed key (titling dir name) u))) st.layout) (sym (left_is t st.proper key can.from can.listed moment)) whole

        pub moved_stands : Stands m6 (renamed moment key dir name t)
        moved_stands = stands m6 (renamed moment key dir name t) st.layout (renamed_is_proper t moment key dir name st.proper can) after

        laid : moved_stands.layout ≡ st.layout
        unfolding moved_stands
        laid = layout_is m6 (renamed moment key dir name t) st.layout (renamed_is_proper t moment key dir name st.proper can) after

        -- ---- what is written

        known : (k : ℕ) (x : Node) → there.nodes k ≡ Some x → k ≢ root t → IsKnown old t st m6 k
        known k x e n =
            let gone = was (titling dir name) key (out old t st moment key can.from can.listed) k x e in
            let before = was (relisted moment (kept t st.proper key can.from can.listed moment)) can.from t k gone.old gone.at in
            inl (before.old, before.at, n)

        -- the new name is in its block
        counted : byte_at m6 key NAME_BYTE ≡ length name
        counted =
            let at = subst (λ (u : Tree). (entered moment dir key (changed key (titling dir name) u)).nodes key ≡ Some (titling dir name the_entry.0)) (sym (left_is t st.proper key can.from can.listed moment))
            (nodes_other dir _ there key apart ∙ here) in
            (after.nodes key (titling dir name the_entry.0) at).name.counted

        moved_written : SameBut (IsWritten old t st m6) old m6
        moved_written =
            let to = directory_at t dir can.directory in
            let new_slot = slot_at m3 key in
            let no_key = no_root old t st moment key can.from can.listed in
            same_trans (IsWritten old t st m6) old m5 m6
            (same_trans (IsWritten old t st m6) old m4 m5
            (same_trans (IsWritten old t st m6) old m3 m4
            (same_trans (IsWritten old t st m6) old m2 m3
            (out_written old t st moment key can.from can.listed from from_is m1 unlinks m2 touched m6)
            (titled_kept old t st m6 key dir name the_entry.0 the_entry.1 no_key counted can.valid.short m2 m3 titled))
            (linked_kept old t st m6 there dir (link_block dir (in_slot there dir new_slot)) (link_long (6 + new_slot) (in_slot there dir new_slot)) key key to.node to.keys to.at to.content known
            (place_behind m3 there st.layout key spelled loose dir into.0 into.1 into.2 into.3 new_slot (slot_at-small m3 key) (in_slot there dir new_slot) (λ k m. m))
            (inl (the_entry.0, the_entry.1, no_key)) m3 m4 inserted.relinks))
            (dated_kept old t st m6 dir to.node to.at moment m4 m5 dated))
            (stamped_kept old t st m6 moment m5 m6 restamped)

        moved_changed : SameBut (IsChanged old t st m6) old m6
        moved_changed = written_changed old t st m6 old m6 moved_written

        -- ---- what is unchanged

        pub moved_none : TakesNone old m6
        moved_none = λ b inside free. marks_stay old m6 t st moved_written b inside ∙ free

        pub moved_gives_none : (b : ℕ) → InImage old b → HasFreeBit m6 b → HasFreeBit old b
        moved_gives_none = λ b inside free. sym (marks_stay old m6 t st moved_written b inside) ∙ free

        pub moved_behind : KeepsAfterName key name old m6
        moved_behind = behind_name old m6 t st moved_changed key the_entry.0 the_entry.1 name counted

        -- each node was there
        was_there : (k : ℕ) → IsSome ((renamed moment key dir name t).nodes k) → IsSome (t.nodes k)
        was_there =
            let keys = enter (λ j. slot (name_of there j)) key (entries there dir) in
            let remaining = kept t st.proper key can.from can.listed moment in
            subst (λ (u : Tree). (k : ℕ) → IsSome ((stamped moment (entered moment dir key (changed key (titling dir name) u))).nodes k) → IsSome (t.nodes k)) (sym (left_is t st.proper key can.from can.listed moment))
            (λ k m. sym (
            changed_keeps is_some (relisted moment keys) dir there (each_keeps is_some (relisted moment keys) (λ a. refl)) k
            ∙ changed_keeps is_some (titling dir name) key (out old t st moment key can.from can.listed) (each_keeps is_some (titling dir name) (λ a. refl)) k
            ∙ changed_keeps is_some (relisted moment remaining) can.from t (each_keeps is_some (relisted moment remaining) (λ a. refl)) k
            )
            ∙ m)

        was_file : (file : ℕ) (bytes : List ℕ) → content_at (renamed moment key dir name t) file ≡ Some (File bytes) → content_at t file ≡ Some (File bytes)
        was_file =
            let keys = enter (λ j. slot (name_of there j)) key (entries there dir) in
            let remaining = kept t st.proper key can.from can.listed moment in
            let content : Option Node → Option Content = option_map (λ (a : Node). a.content) in
            subst (λ (u : Tree). (file : ℕ) (bytes : List ℕ) → content_at (stamped moment (entered moment dir key (changed key (titling dir name) u))) file ≡ Some (File bytes) → content_at t file ≡ Some (File bytes)) (sym (left_is t st.proper key can.from can.listed moment))
            (λ file bytes is. listed_file moment can.from remaining t file bytes
            (sym (changed_keeps content (titling dir name) key (out old t st moment key can.from can.listed) (each_keeps content (titling dir name) (λ a. refl)) file) ∙ listed_file moment dir keys there file bytes is))

        pub moved_keeps : IsImage m6 → KeepsRest old m6
        moved_keeps is = record {
          kept = changed_kept old m6 t st moved_changed;
          lowest = none_taken old m6 moved_none;
          freed = keeps_freed old m6 t st moved_written;
          untold = untold_kept old m6 t (renamed moment key dir name t) st after moved_stands.proper moved_changed (past_end old m6 t st moved_written);
          uses = uses_laid old m6 t (renamed moment key dir name t) st moved_stands laid (λ k m. inl (was_there k m)) (λ b. ap (λ (u : Tree). u.lost b) (left_is t st.proper key can.from can.listed moment));
          kinds = λ file still. let c = still (renamed moment key dir name t) moved_stands in inl (has_key old t st file (was_file file c.0 c.1));
          bytes = λ was. is;
        }
