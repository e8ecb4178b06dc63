-- The steps that remove an entry without contents: the image represents the tree without it.
use Rattle.ados_change.proofs.Common.{◌≡◌, ◌≢◌, ℕ, inl, inr, true, List, sym, ap, ◌∙◌, subst, arith, Option, None, option_map, refl, [], cases_eq, block_count, has_free_bit, root_key, IsInside, HasFreeBit, parent_key, SameBut, same_count, same_trans, MapPlace, BitChanged, LawfulPages, page_of, Date3, LawfulChains, Unlinks, removed, Stands, bit_of_inside, InImage, KeepsPastEnd, KeepsUntold, Node, Tree, root, size_of, CanRemove, Dated, Proper, entries, size_in, with_node, stamped, Duty, GivesBack, IsChanged, IsWritten}
use Rattle.ados_change.proofs.Leaving.{in_tree, key_inside, out, out_is_loose, out_entry, count_out, out_spells, out_written, stamped_spells}
use Rattle.ados_change.proofs.Unchanged.{at_root}
use Rattle.ados_change.proofs.FilesStay.{past_end_trans}
use Rattle.ados_change.proofs.Lawful.{lawful_pages}
use Rattle.ados_change.proofs.EntriesKept.{page_changed, written_changed, marked_kept, stamped_kept}
use Rattle.ados_change.proofs.ProperChanges.{removed_is_proper}
use Rattle.ados_change.proofs.Loose.{Loose, left_is, not_own_parent, node_kept, entries_other, without_is_proper, proper_is_loose, Spells, stands}
use Rattle.ados_change.proofs.EntriesUntold.{HasPages, IsOffMap, bit_past_end, freed_stays, marks_stay, off_marks, off_past_end, old_pages, pages_after, past_end, untold_kept, written_off}
use Rattle.ados_change.proofs.Remarked.{IsAlone, marked_remarks, remarked}

module _ (old : List ℕ) (t : Tree) (st : Stands old t) (moment : Date3) (key : ℕ) (can : CanRemove t key) (no_bytes : size_of t key ≡ 0) (from : ℕ) (from_is : from ≡ parent_key old key)
    (m1 : List ℕ) (unlinks : (chains : ℕ → List ℕ) → LawfulChains old from chains → Unlinks from key chains old m1) (m2 : List ℕ) (touched : Dated from 105 moment m1 m2) where
  -- the tree without the key in its directory's list
  abbrev left_out : Tree
  left_out = out old t st moment key can.dir can.listed

  loose : Loose left_out key
  loose = out_is_loose old t st moment key can.dir can.listed

  spelled : Spells m2 left_out st.layout
  spelled = out_spells old t st moment key can.dir can.listed from from_is m1 unlinks m2 touched

  count_m2 : block_count m2 ≡ t.blocks
  count_m2 = count_out old t st moment key can.dir can.listed from from_is m1 unlinks m2 touched

  inside : IsInside t.blocks key
  inside = in_tree old t st moment key can.dir can.listed

  pub key_still : IsInside (block_count m2) key
  key_still = (inside.0, omega (arith, inside.1, count_m2))

  pub pages_still : LawfulPages m2
  pages_still = lawful_pages m2 left_out st.layout key spelled loose

  no_entries : [] ≡ entries left_out key
  no_entries = sym (entries_other t st.proper key can.dir can.listed moment key (λ e. not_own_parent t st.proper key can.dir can.listed moment (sym e)) ∙ can.empty)

  alone : IsAlone left_out st.layout key None
  alone = record {
    inside = inside;
    only = λ duty m. let at = out_entry old t st moment key can.dir can.listed in spelled.fits.one_duty key duty Duty.Key m (rw at refl);
    same_list = no_entries;
    size_after = refl;
    size_before = ap (λ (o : Option Node). size_in (option_map (λ node. node.content) o)) (node_kept t st.proper key can.dir can.listed moment) ∙ no_bytes;
  }

  gone_proper : Proper (with_node key None left_out)
  gone_proper = without_is_proper left_out key loose None no_entries refl (sym no_entries)

  -- the first two steps write no bitmap block
  written : (last : List ℕ) → SameBut (IsWritten old t st last) old m2
  written = out_written old t st moment key can.dir can.listed from from_is m1 unlinks m2 touched

  count_old : block_count m2 ≡ block_count old
  count_old = count_m2 ∙ sym (omega (arith, st.whole))

  out_end : KeepsPastEnd old m2
  out_end = past_end old m2 t st (written m2)

  out_map : HasPages old t st m2
  out_map = pages_after old t st old m2 count_old out_end (old_pages old t st)

  module _ (m3 m4 : List ℕ) (given : BitChanged m2 key true m3) (stamp : Dated (root_key (block_count m3)) 118 moment m3 m4) where
    count_m3 : block_count m3 ≡ block_count m2
    count_m3 = same_count (MapPlace m2 key) m2 m3 given.rest

    restamped : Dated (root t) 118 moment m3 m4
    restamped = at_root m3 m4 t moment (count_m3 ∙ count_m2) stamp

    gone_spells : Spells m3 (with_node key None left_out) st.layout
    gone_spells = remarked m2 m3 left_out st.layout key None spelled loose alone (marked_remarks m2 m3 left_out st.layout key spelled loose inside None given)
        (λ a e. absurd (cc e)) (λ a d e p. absurd (cc e)) (λ a keys q e c m. absurd (cc e)) (λ a bytes e c. absurd (cc e))

    after : Spells m4 (removed moment key t) st.layout
    after =
        subst (λ (u : Tree). Spells m4 (stamped moment (with_node key None u)) st.layout) (sym (left_is t st.proper key can.dir can.listed moment))
        (stamped_spells m3 m4 (with_node key None left_out) st.layout 0 gone_spells (proper_is_loose (with_node key None left_out) gone_proper) moment restamped)

    pub gone : Stands m4 (removed moment key t)
    gone = stands m4 (removed moment key t) st.layout (removed_is_proper t moment key st.proper can) after

    -- ---- what is unchanged

    last_written : SameBut (IsWritten old t st m4) m3 m4
    last_written = stamped_kept old t st m4 moment m3 m4 restamped

    pub gone_changed : SameBut (IsChanged old t st m4) old m4
    gone_changed =
        same_trans (IsChanged old t st m4) old m3 m4
        (same_trans (IsChanged old t st m4) old m2 m3 (written_changed old t st m4 old m2 (written m4)) (page_changed old t st m4 m2 m3 (marked_kept old t st m4 key true m2 m3 (out_map.serves (page_of key) (omega (arith, inside.0, inside.1, count_m2))) given)))
        (written_changed old t st m4 m3 m4 last_written)

    -- ---- the bitmap

    mark_end : KeepsPastEnd m2 m3
    mark_end = bit_past_end old t st m2 m3 key true out_map pages_still key_still given

    marked_map : HasPages old t st m3
    marked_map = pages_after old t st m2 m3 count_m3 mark_end out_map

    last_off : SameBut (IsOffMap old t st) m3 m4
    last_off = written_off old t st m4 m3 m4 last_written

    pub gone_untold : KeepsUntold old m4
    gone_untold =
        untold_kept old m4 t (removed moment key t) st after gone.proper gone_changed
        (past_end_trans old m3 m4 (count_m3 ∙ count_old) (past_end_trans old m2 m3 count_old out_end mark_end) (off_past_end old t st m3 m4 marked_map last_off))

    last_mark : (b : ℕ) → InImage old b → has_free_bit m4 b ≡ has_free_bit m3 b
    last_mark b i = off_marks old t st m3 m4 marked_map last_off b (bit_of_inside m3 b (i.0, omega (arith, i.1, count_m3, count_old)))

    other_mark : (b : ℕ) → InImage old b → b ≢ key → has_free_bit m4 b ≡ has_free_bit old b
    other_mark b i n = last_mark b i ∙ given.others b (bit_of_inside m2 b (i.0, omega (arith, i.1, count_old))) n ∙ marks_stay old m2 t st (written m2) b i

    key_free : HasFreeBit m4 key
    key_free = last_mark key (inside.0, key_inside old t st moment key can.dir can.listed) ∙ given.bit

    -- no block is allocated; the entry's own block is freed and no other, and no other free block is written
    pub gone_gives : GivesBack key old m4
    gone_gives = record {
      none = λ b i free. elim (cases_eq b key) [ inl e ↦ ap (has_free_bit m4) e ∙ key_free | inr n ↦ other_mark b i n ∙ free ];
      free = key_free;
      given = λ b i n free. sym (other_mark b i n) ∙ free;
      freed = λ b i n free. freed_stays old m4 t st gone_changed b i (sym (other_mark b i n) ∙ free) free;
    }
