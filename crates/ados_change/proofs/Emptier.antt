-- A file is emptied before its removal; a directory has nothing to empty.
use Rattle.ados_change.proofs.Common.{no_data, ◌≡◌, ◌≢◌, ℕ, List, slice_index, Option, None, option_map, refl, sym, ap, ◌∙◌, subst, arith, InBlock, OnlyBlock, IsInside, block_count, has_free_bit, HasFreeBit, same_count, same_weaken, page_block, bit_of_inside, InImage, size_in, Duty, HasDuty, Stands, Node, Tree, entries_in, count_same, slice_get-index, KeepsPastEnd, KeepsUntold, mark_kept, inl, inr, ◌==◌, not, filter, Some, ap₂, option_map_or, cases_eq, Date3, changed, listed, removed, stamped, with_node, entries, parent_of, zero, suc, ◌+◌, ◌*◌, ◌/◌, ◌<◌, ◌≤◌, ◌∷◌, length, take, option_and_then, [], cases_lt, nil_from_length, data_count, extension_count, data_blocks, extension_blocks, IsBeside, root_key, page_count, pages_of, root_is, root, NAME_BYTE, COMMENT_BYTE, SameBut, IsDiskStamp, byte_at, secondary_type, FILE_TYPE, left, shortened, without_archive, type_of, Content, bytes_of, content_at, size_of, Directory, File, HasFileKey, HasFileBytes, KeepsBlock, KeepsRest, TakesNone, directory_node, parent_in, CanRemove, get_or_past, root_of, slice_get-back, IsChanged, IsPage, IsPlain, IsWritten, of_none, of_node, of_name, of_comment, Empties, GivesBack, IsEmptied, WritesOnlyEntry, is_some, IsSome, false≢true, IsImage}
use Rattle.ados_change.proofs.Changed.{same_with, nodes_here, nodes_other, changed_keeps, each_keeps, parent_field, relisted, same_nodes, listed_file}
use Rattle.ados_change.proofs.EntriesUntold.{IsOffMap, off_past_end, old_pages, untold_beside}
use Rattle.ados_change.proofs.Loose.{unused_is_loose, Spells, spells, stands}
use Rattle.ados_change.proofs.Making.{no_node as none_in}
use Rattle.ados_change.proofs.Remarked.{IsAlone, Remarks, filled_remarks, remarked}
use Rattle.ados_change.proofs.Writable.{key_serves, data_is, extensions_is, page_serves}
use Rattle.ados_change.proofs.EntriesKept.{changed_kept}
use Rattle.ados_change.proofs.FilesStay.{has_bytes, untold_trans}
use Rattle.ados_change.proofs.Keeping.{none_taken}
use Rattle.ados_change.proofs.Loose.{left_is, not_own_parent, kept as remaining}
use Rattle.ados_change.proofs.Uses.{uses_stay, kinds_stay}

-- ---- a block that is marked free gets other bytes: the image represents the same tree

module _ (old new : List ℕ) (t : Tree) (st : Stands old t) (key : ℕ) (inside : InImage old key) (free : HasFreeBit old key) (only : OnlyBlock key old new) where
  in_tree : IsInside t.blocks key
  in_tree = (inside.0, omega (arith, inside.1, count_same old t st))

  unused : (duty : Duty) → ¬ HasDuty t st.layout key duty
  unused duty m = st.marked_free key in_tree free (duty, m)

  apart : (b : ℕ) (duty : Duty) → HasDuty t st.layout b duty → b ≢ key
  apart b duty m e = unused duty (subst (λ (c : ℕ). HasDuty t st.layout c duty) e m)

  count : block_count new ≡ block_count old
  count = same_count (InBlock key) old new only

  -- ---- the bitmap

  past_end : KeepsPastEnd old new
  past_end =
      off_past_end old t st old new (old_pages old t st)
      (same_weaken (InBlock key) (IsOffMap old t st) old new (λ b i e. record { no_page = λ p. apart b (Duty.Page p.0) p.1 e; no_name = λ r. absurd (apart b Duty.Key (key_serves old t st b st.proper.root_node.0 (ap t.nodes r ∙ st.proper.root_node.1)) e) }) only)

  pub marks_stay : (b : ℕ) → InImage old b → has_free_bit new b ≡ has_free_bit old b
  marks_stay b i =
      mark_kept (InBlock key) old new only past_end.pages (λ p k l m e. let page = (old_pages old t st).serves p l in apart (page_block old p) (Duty.Page page.0) page.1 e)
      b (bit_of_inside old b i)

  -- ---- the tree

  no_node : t.nodes key ≡ None
  no_node = none_in t st.layout key unused (t.nodes key) refl

  alone : IsAlone t st.layout key None
  alone = record {
    inside = in_tree;
    only = λ duty m. absurd (unused duty m);
    same_list = sym (ap (λ (o : Option Node). entries_in (option_map (λ node. node.content) o)) no_node);
    size_after = refl;
    size_before = ap (λ (o : Option Node). size_in (option_map (λ node. node.content) o)) no_node;
  }

  remarks : Remarks old t st.layout key None new
  remarks =
      filled_remarks old old new t st.layout key None (λ p m e. apart (slice_index st.layout.pages p) (Duty.Page p) (slice_get-index st.layout.pages p m) e) (λ b i. marks_stay b (i.0, omega (arith, i.1, count_same old t st))) in_tree
      (record { change = record { same_length = refl; same_byte = λ b i m n. refl }; bit = free; others = λ b i n. refl; sums = st.pages }) only

  spells_still : Spells new t st.layout
  spells_still =
      subst (λ (u : Tree). Spells new u st.layout) (same_with key None t no_node)
      (remarked old new t st.layout key None (spells old t st) (unused_is_loose t key st.proper no_node) alone remarks
      (λ a e. absurd (cc e)) (λ a d e p. absurd (cc e)) (λ a keys q e c m. absurd (cc e)) (λ a bytes e c. absurd (cc e)))

  pub stands_still : Stands new t
  stands_still = stands new t st.layout st.proper spells_still

  pub untold_still : KeepsUntold old new
  untold_still = untold_beside old new t t st spells_still st.proper (InBlock key) only (λ b i file q m. apart b (Duty.Data file q) m) past_end

-- ---- after its removal, the contents of an entry make no difference

module _ (t : Tree) (key dir : ℕ) (moment : Date3) (f : Node → Node) (keeps : (a : Node) → (f a).parent ≡ a.parent) (below : parent_of t key ≡ Some dir) (apart : dir ≢ key) where
  abbrev u : Tree
  u = stamped moment (changed key f t)

  node_other : (k : ℕ) → k ≢ key → u.nodes k ≡ t.nodes k
  node_other k n = nodes_other key (option_map f (t.nodes key)) t k n

  abbrev list : Tree → List ℕ
  list tree = filter (λ k. not (k == key)) (entries tree dir)

  -- the tree without the entry of this directory
  abbrev gone : Tree → Tree
  gone tree = stamped moment (with_node key None (listed moment dir (list tree) tree))

  gone_is : (tree : Tree) → parent_of tree key ≡ Some dir → removed moment key tree ≡ gone tree
  gone_is tree e = ap (λ (o : Option ℕ). stamped moment (with_node key None (option_map_or (λ d. listed moment d (filter (λ k. not (k == key)) (entries tree d)) tree) o tree))) e

  node_same : (k : ℕ) → (gone u).nodes k ≡ (gone t).nodes k
  node_same k = elim (cases_eq k key) [
    | inl e ↦ ap (gone u).nodes e ∙ nodes_here key None (listed moment dir (list u) u) ∙ sym (ap (gone t).nodes e ∙ nodes_here key None (listed moment dir (list t) t))
    | inr n ↦
        nodes_other key None (listed moment dir (list u) u) k n
        ∙ elim (cases_eq k dir) [
          | inl e ↦
              ap (listed moment dir (list u) u).nodes e ∙ nodes_here dir (option_map (relisted moment (list u)) (u.nodes dir)) u
              ∙ ap₂ (λ (keys : List ℕ) (o : Option Node). option_map (relisted moment (filter (λ k. not (k == key)) keys)) o) (ap (λ (o : Option Node). entries_in (option_map (λ node. node.content) o)) (node_other dir apart)) (node_other dir apart)
              ∙ sym (ap (listed moment dir (list t) t).nodes e ∙ nodes_here dir (option_map (relisted moment (list t)) (t.nodes dir)) t)
          | inr o ↦
              nodes_other dir (option_map (relisted moment (list u)) (u.nodes dir)) u k o
              ∙ node_other k n
              ∙ sym (nodes_other dir (option_map (relisted moment (list t)) (t.nodes dir)) t k o)
        ]
        ∙ sym (nodes_other key None (listed moment dir (list t) t) k n)
  ]

  pub removed_same : removed moment key u ≡ removed moment key t
  removed_same = gone_is u (changed_keeps parent_field f key t (each_keeps parent_field f keeps) key ∙ below) ∙ same_nodes (stamped moment t) (gone u).nodes (gone t).nodes node_same ∙ sym (gone_is t below)

module _ (old : List ℕ) (t : Tree) (st : Stands old t) (key : ℕ) (can : CanRemove t key) where
  abbrev entry : (a : Node) × (t.nodes key ≡ Some a) × (a.parent ≡ Some can.dir)
  entry = parent_in (t.nodes key) can.dir can.listed

  pub key_inside : key < block_count old
  key_inside = let i = st.proper.inside key entry.0 entry.1 in omega (arith, i.1, st.whole)

  typed : secondary_type old key ≡ type_of entry.0.content
  typed = (st.entries key can.dir entry.0 entry.1 entry.2).secondary

  -- an entry that is not a file has no bytes
  pub not_file : secondary_type old key ≢ FILE_TYPE → size_of t key ≡ 0
  not_file n = let at = entry.1 in rw at (go entry.0.content typed)
    where
      go : (c : Content) → secondary_type old key ≡ type_of c → size_in (Some c) ≡ 0
      go (Directory keys) e = refl
      go (File bytes) e = absurd (n e)

  pub is_file : secondary_type old key ≡ FILE_TYPE → (bytes : List ℕ) × (content_at t key ≡ Some (File bytes))
  is_file e = go entry.0.content (sym typed ∙ e) (ap (option_map (λ node. node.content)) entry.1)
    where
      go : (c : Content) → type_of c ≡ FILE_TYPE → content_at t key ≡ Some c → (bytes : List ℕ) × (content_at t key ≡ Some (File bytes))
      go (Directory keys) d at = absurd (omega (arith, d))
      go (File bytes) d at = (bytes, at)

  module _ (moment : Date3) where
    abbrev shorter : Node → Node
    shorter node = record node { content = File (take 0 (bytes_of t key)); date = moment; protection = without_archive node.protection }

    cut_node : (changed key shorter t).nodes key ≡ Some (shorter entry.0)
    cut_node = nodes_here key (option_map shorter (t.nodes key)) t ∙ ap (option_map shorter) entry.1

    pub cut_to_nothing : IsEmptied moment key t (shortened moment key 0 t)
    cut_to_nothing = record {
      can = record {
        dir = can.dir;
        listed = ap (option_and_then (λ node. node.parent)) cut_node ∙ entry.2;
        empty = ap (λ (o : Option Node). entries_in (option_map (λ node. node.content) o)) cut_node;
      };
      no_bytes = ap (λ (o : Option Node). size_in (option_map (λ node. node.content) o)) cut_node;
      others = λ k n. nodes_other key (option_map shorter (t.nodes key)) t k n;
      same = removed_same t key can.dir moment shorter (λ a. refl) can.listed (not_own_parent t st.proper key can.dir can.listed moment);
    }

    -- a file without bytes has no blocks, so a block beside the entry is beside its lists
    pub beside_none : (mid : List ℕ) → Stands mid (shortened moment key 0 t) → (b : ℕ) → IsBeside old key [] [] b → IsBeside old key (data_blocks mid key) (extension_blocks mid key) b
    beside_none mid s b n =
        let u = shortened moment key 0 t in
        let blocks = nil_from_length (s.layout.file_data key) (s.fits.file_data key ∙ ap (data_count t.format) cut_to_nothing.no_bytes ∙ no_data t.format) in
        let lists = nil_from_length (s.layout.extensions key) (s.fits.extensions key ∙ ap (λ (xs : List ℕ). extension_count (length xs)) blocks) in
        rw (data_is mid u s key (shorter entry.0) (take 0 (bytes_of t key)) cut_node refl ∙ blocks, extensions_is mid u s key (shorter entry.0) (take 0 (bytes_of t key)) cut_node refl ∙ lists) n

-- the image represents only this tree, so a fact about one of its trees is a fact about each
module _ (moment : Date3) (key : ℕ) (old mid : List ℕ) (t : Tree) (st : Stands old t) (empties : Empties moment key old mid) where
  abbrev emptied : (u : Tree) × Stands mid u × IsEmptied moment key t u
  emptied = empties t st

  pub taken_away : (new : List ℕ) → ((v : Tree) → Stands mid v → Stands new (removed moment key v)) → Stands new (removed moment key t)
  taken_away new gone = subst (Stands new) emptied.2.same (gone emptied.0 emptied.1)

-- bytes outside the image are 0
outside_same : (old new : List ℕ) (blocks : ℕ) → length old ≡ 512 * blocks → length new ≡ length old → (b i : ℕ) → block_count old ≤ b → byte_at new b i ≡ byte_at old b i
unfolding byte_at
outside_same old new blocks whole same b i past = get_or_past new (512 * b + i) 0 (omega (arith, whole, same, past)) ∙ sym (get_or_past old (512 * b + i) 0 (omega (arith, whole, past)))

-- emptying an entry, removing it and writing the old bytes into its block again
module _ (moment : Date3) (key : ℕ) (old mid away new : List ℕ) (t : Tree) (st : Stands old t) (can : CanRemove t key) (empties : KeepsRest old mid) (none : TakesNone old mid) (emptied : Empties moment key old mid)
    (footprint : (u : Tree) (s : Stands mid u) → SameBut (IsChanged mid u s away) mid away) (gives : GivesBack key mid away) (gone : Stands away (removed moment key t)) (back : OnlyBlock key away new) where
  -- the tree with the entry emptied
  abbrev between : (u : Tree) × Stands mid u × IsEmptied moment key t u
  between = emptied t st

  last : SameBut (IsChanged mid between.0 between.1 away) mid away
  last = footprint between.0 between.1

  count_mid : block_count mid ≡ block_count old
  count_mid = ap (λ (n : ℕ). n / 512) empties.kept.size

  count_away : block_count away ≡ block_count old
  count_away = ap (λ (n : ℕ). n / 512) last.same_length ∙ count_mid

  in_mid : (b : ℕ) → InImage old b → InImage mid b
  in_mid b i = (i.0, omega (arith, i.1, count_mid))

  in_away : (b : ℕ) → InImage old b → InImage away b
  in_away b i = (i.0, omega (arith, i.1, count_away))

  key_in_away : InImage away key
  key_in_away = let n = entry old t st key can in let i = st.proper.inside key n.0 n.1 in in_away key (i.0, omega (arith, i.1, st.whole))

  pub stands_away : Stands new (removed moment key t)
  stands_away = stands_still away new (removed moment key t) gone key key_in_away gives.free back

  mark : (b : ℕ) → InImage old b → has_free_bit new b ≡ has_free_bit away b
  mark b i = marks_stay away new (removed moment key t) gone key key_in_away gives.free back b (in_away b i)

  pub takes_none : TakesNone old new
  takes_none b i free = mark b i ∙ gives.none b (in_mid b i) (none b i free)

  module _ (untold : KeepsUntold mid away) (only : WritesOnlyEntry key old mid) (dead : KeepsBlock key old new) where
    -- ---- what is written

    same_root : root between.0 ≡ root t
    same_root = ap root_key (omega (arith, st.whole, between.1.whole, empties.kept.size))

    -- a bitmap block is still the same
    page_was : (b : ℕ) → IsPage mid between.0 between.1 b → IsPage old t st b
    page_was b p =
        let at = slice_get-back between.1.layout.pages p.0 b p.1 in
        let now : p.0 < pages_of mid = omega (arith, at.0, between.1.fits.pages, ap page_count (count_same mid between.0 between.1)) in
        let then : p.0 < pages_of old = omega (arith, now, ap page_count count_mid) in
        let same : page_block mid p.0 ≡ b = cc (page_serves mid between.0 between.1 p.0 now, p.1) in
        (p.0, subst (λ (c : ℕ). HasDuty t st.layout c (Duty.Page p.0)) (sym (empties.untold.past_end.pages p.0 then) ∙ same) (page_serves old t st p.0 then))

    -- what the removal writes outside the entry's block is in the footprint of the whole change
    carried : (b i : ℕ) → b < block_count old → b ≢ key → IsChanged mid between.0 between.1 away b i → IsChanged old t st new b i
    carried b i inside n (inl p) = inl (page_was b p)
    carried b i inside n (inr (of_none l used unnamed)) =
        let named = between.1.marked_used b (l, omega (arith, inside, st.whole, between.1.whole, empties.kept.size)) (λ f. used (gives.none b (in_mid b (l, inside)) f)) in
        absurd (unnamed named.0 named.1)
    carried b i inside n (inr (of_node a e p)) = inr (of_node a (sym (between.2.others b n) ∙ e) (subst (λ (r : ℕ). IsPlain r b a (i / 4)) same_root p))
    carried b i inside n (inr (of_name a e text short)) = inr (of_name a (sym (between.2.others b n) ∙ e) (text.0, omega (arith, text.1, back.same_byte b NAME_BYTE (omega arith) n)) short)
    carried b i inside n (inr (of_comment a e o text short)) =
        inr (of_comment a (sym (between.2.others b n) ∙ e) (λ r. o (r ∙ sym same_root)) (text.0, omega (arith, text.1, back.same_byte b COMMENT_BYTE (omega arith) n)) short)

    -- the disk date in the root
    dated : (b i : ℕ) → (b ≡ root_of old) × IsDiskStamp (i / 4) → IsWritten old t st new b i
    dated b i (e, f) =
        let here = e ∙ root_is old t st in
        of_node st.proper.root_node.0 (ap t.nodes here ∙ st.proper.root_node.1) (elim f [ inl sum ↦ IsPlain.sum sum | inr disk ↦ IsPlain.disk here disk.0 (omega (arith, disk.1)) ])

    beside : (b i : ℕ) → b < block_count old → b ≢ key → ¬ IsChanged old t st new b i → IsBeside old key [] [] b
    beside b i inside n free = record {
      inside = inside;
      beside_pages = λ p l e. free (inl (p, subst (λ (c : ℕ). HasDuty t st.layout c (Duty.Page p)) (sym e) (page_serves old t st p l)));
      beside_headers = headers;
      beside_data = λ q l. absurd (omega (arith, l));
    }
      where
        headers : (q : ℕ) → q ≤ 0 → b ≢ slice_index (key ∷ []) q
        headers zero l e = n e
        headers (suc q) l e = omega (arith, l)

    whole_change : SameBut (IsChanged old t st new) old new
    whole_change = record {
      same_length = back.same_length ∙ last.same_length ∙ empties.kept.size;
      same_byte = λ b i l free. elim (cases_eq b key) [
        | inl e ↦ subst (λ (c : ℕ). byte_at new c i ≡ byte_at old c i) (sym e) (dead i l)
        | inr n ↦ elim (cases_lt b (block_count old)) [
          | inl inside ↦
              back.same_byte b i l n ∙ last.same_byte b i l (λ w. free (carried b i inside n w))
              ∙ only b i l (beside b i inside n free) (λ w. free (inr (dated b i w)))
          | inr past ↦ outside_same old new t.blocks st.whole (back.same_length ∙ last.same_length ∙ empties.kept.size) b i past
        ]
      ];
    }

    -- ---- all other files have the same bytes

    not_key : (file : ℕ) (image : List ℕ) → Stands image (removed moment key t) → HasFileKey image file → file ≢ key
    not_key file image stood is e =
        let none : content_at (removed moment key t) file ≡ None = ap (content_at (removed moment key t)) e ∙ ap (option_map (λ (a : Node). a.content)) (nodes_here key None (left moment key t)) in
        let some = (is (removed moment key t) stood).1 in
        cc (none, some)

    in_between : (file : ℕ) (bytes : List ℕ) → HasFileKey away file → HasFileBytes old file bytes → HasFileBytes mid file bytes
    in_between file bytes is was =
        has_bytes mid between.0 between.1 file bytes (ap (option_map (λ (a : Node). a.content)) (between.2.others file (not_key file away gone is)) ∙ was t st)

    not_dir : (file : ℕ) (bytes : List ℕ) → content_at t file ≡ Some (File bytes) → file ≢ can.dir
    not_dir file bytes was e =
        let d = directory_node t st.proper can.dir key ((st.proper.listed can.dir key).1 can.listed) in
        let there : content_at t file ≡ Some (Directory d.1) = ap (content_at t) e ∙ ap (option_map (λ (a : Node). a.content)) d.2 ∙ ap Some d.3 in
        cc (was, there)

    afterwards : (file : ℕ) (bytes : List ℕ) → HasFileKey new file → HasFileBytes old file bytes → HasFileBytes away file bytes
    afterwards file bytes is was =
        let node =
        nodes_other key None (left moment key t) file (not_key file new stands_away is)
        ∙ ap (λ (u : Tree). u.nodes file) (left_is t st.proper key can.dir can.listed moment)
        ∙ nodes_other can.dir (option_map (relisted moment (remaining t st.proper key can.dir can.listed moment)) (t.nodes can.dir)) t file (not_dir file bytes (was t st)) in
        has_bytes away (removed moment key t) gone file bytes (ap (option_map (λ (a : Node). a.content)) node ∙ was t st)

    untold_away : KeepsUntold old new
    untold_away = untold_trans old away new t st count_away afterwards (untold_trans old mid away t st count_mid in_between empties.untold untold) (untold_still away new (removed moment key t) gone key key_in_away gives.free back)

    -- each node was there, and each file had the same bytes
    abbrev was_left : List ℕ
    was_left = remaining t st.proper key can.dir can.listed moment

    node_left : (k : ℕ) → k ≢ key → (removed moment key t).nodes k ≡ (listed moment can.dir was_left t).nodes k
    node_left k n = nodes_other key None (left moment key t) k n ∙ ap (λ (u : Tree). u.nodes k) (left_is t st.proper key can.dir can.listed moment)

    was_there : (k : ℕ) → IsSome ((removed moment key t).nodes k) → IsSome (t.nodes k)
    was_there k m = elim (cases_eq k key) [
      | inl e ↦ absurd (false≢true (sym (ap is_some (ap (removed moment key t).nodes e ∙ nodes_here key None (left moment key t))) ∙ m))
      | inr n ↦ sym (ap is_some (node_left k n) ∙ changed_keeps is_some (relisted moment was_left) can.dir t (each_keeps is_some (relisted moment was_left) (λ a. refl)) k) ∙ m
    ]

    lost_same : (b : ℕ) → (removed moment key t).lost b ≡ t.lost b
    lost_same b = ap (λ (u : Tree). u.lost b) (left_is t st.proper key can.dir can.listed moment)

    was_file : (file : ℕ) (bytes : List ℕ) → content_at (removed moment key t) file ≡ Some (File bytes) → content_at t file ≡ Some (File bytes)
    was_file file bytes is = listed_file moment can.dir was_left t file bytes (sym (ap (option_map (λ (a : Node). a.content)) (node_left file apart)) ∙ is)
      where
        apart : file ≢ key
        apart = not_key file new stands_away (λ u r. (bytes, has_bytes new (removed moment key t) stands_away file bytes is u r))

    pub keeps_away : IsImage new → KeepsRest old new
    keeps_away is = record {
      kept = changed_kept old new t st whole_change;
      lowest = none_taken old new takes_none;
      freed = λ b inside free i l. elim (cases_eq b key) [
        | inl e ↦ subst (λ (c : ℕ). byte_at new c i ≡ byte_at old c i) (sym e) (dead i l)
        | inr other ↦
            let was : HasFreeBit away b = sym (mark b inside) ∙ free in
            back.same_byte b i l other ∙ gives.freed b (in_mid b inside) other was i l ∙ empties.freed b inside (gives.given b (in_mid b inside) other was) i l
      ];
      untold = untold_away;
      uses = uses_stay old new t (removed moment key t) st stands_away (ap (λ (n : ℕ). n / 512) whole_change.same_length) untold_away was_there lost_same was_file;
      kinds = kinds_stay old new t (removed moment key t) st stands_away (ap (λ (n : ℕ). n / 512) whole_change.same_length) untold_away was_there lost_same was_file;
      bytes = λ was. is;
    }
