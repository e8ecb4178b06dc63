-- An image with the time stamp of a change written into it: everything else is unchanged.
use Rattle.ados_change.proofs.Common.{◌≡◌, ◌≢◌, ℕ, ◌+◌, ◌-◌, ◌/◌, ◌<◌, ◌≤◌, ◌⊎◌, inl, inr, Bool, cond, List, Some, refl, sym, ap, ◌∙◌, subst, arith, block_count, root_key, page_count, IsInside, long, has_free_bit, total, pointer_count, secondary_type, format_of, free_bit_count, FILE_TYPE, SameBut, same_long, same_count, same_weaken, Node, Tree, root, File, Stands, type_of, Role, IsFile, Reached, root_page, root_slot, directory_slot, next_entry, header_pointer, first_extension, extension_pointer, further_extension, start, Kept, IsField, Alike, IsTaken, KeepsRest, TakesLowest, root_or_parent, count_same, reached_stands, root_at, IsFileStamp, IsDiskStamp, AtStamps, total-same, IsWritten, of_node, [], IsSome, eq-eqb, ne_eqb, cases_eq, same_trans, Date3, HasFileKey, HasEntryKey, HasKey, HasTree, root_of, stamped, without_archive, root_is, IsFileNode, one_tree, Summed, dated, protected, touched, IsStamped, IsPlain, KeepsUntold}
use Rattle.ados_model.specs.declared.role.Role.TheVariants as roles
use Rattle.ados_model.specs.Faults.{IsPlace}
use Rattle.ados_model.specs.Faults.Reached.{named}
use Rattle.ados_change.proofs.EntriesKept.{alike_field, changed_field}
use Rattle.ados_change.proofs.EntriesUntold.{marks_stay}
use Rattle.ados_change.proofs.FieldsKept.{IsTold, fields_kept, fields_untold}
use Rattle.ados_change.proofs.FilesStay.{file_of_key}
use Rattle.ados_change.proofs.Keeping.{first_stays}
use Rattle.ados_change.proofs.Changed.{same_nodes}
use Rattle.ados_change.proofs.Contents.{file_not_root}

-- a long that is no time stamp, neither of a file nor of the root
abbrev IsUnstamped : ℕ → Type 0
IsUnstamped j = ¬ (IsFileStamp j ⊎ IsDiskStamp j)

module _ (old new : List ℕ) (t : Tree) (s : Stands old t) (file : ℕ) (node : Node) (found : t.nodes file ≡ Some node) (not_root : file ≢ root t) (h : SameBut (AtStamps (root t) file) old new) where
  count : block_count new ≡ block_count old
  count = same_count (AtStamps (root t) file) old new h

  -- time stamps are in the footprint of a change
  stamps_written : (last : List ℕ) (b i : ℕ) → AtStamps (root t) file b i → IsWritten old t s last b i
  stamps_written last b i (inl (e, w)) = of_node node (ap t.nodes e ∙ found) (elim w [ inl f ↦ IsPlain.sum f | inr (inl f) ↦ IsPlain.bits (λ r. not_root (sym e ∙ r)) f | inr (inr f) ↦ IsPlain.date f.0 (omega (arith, f.1)) ])
  stamps_written last b i (inr (e, w)) = of_node s.proper.root_node.0 (ap t.nodes e ∙ s.proper.root_node.1) (elim w [ inl f ↦ IsPlain.sum f | inr f ↦ IsPlain.disk e f.0 (omega (arith, f.1)) ])

  unchanged : (b i k : ℕ) → IsUnstamped i → k / 4 ≡ i → ¬ AtStamps (root t) file b k
  unchanged b i k p e (inl w) = p (inl (subst IsFileStamp e w.1))
  unchanged b i k p e (inr w) = p (inr (subst IsDiskStamp e w.1))

  plain_long : (b i : ℕ) → i < 128 → IsUnstamped i → long new b i ≡ long old b i
  plain_long b i l p = same_long (AtStamps (root t) file) old new h b i l (λ k e. unchanged b i k p e)

  -- the bitmap pointers of the root are unchanged
  page_long : (i : ℕ) → i < page_count (block_count old) → long new (root t) (79 + i) ≡ long old (root t) (79 + i)
  page_long i l =
      let few : 79 + i < 105 = omega (arith, l, count_same old t s, s.proper.size.1) in
      same_long (AtStamps (root t) file) old new h (root t) (79 + i) (omega (arith, few)) (λ k e w. omega (arith, e, few, not_root, w))

  -- ---- what is reached, and its fields

  type_same : (b : ℕ) → secondary_type new b ≡ secondary_type old b
  type_same b = plain_long b 127 (omega arith) (λ w. omega (arith, w))

  pointers : (b : ℕ) → pointer_count new b ≡ pointer_count old b
  pointers b = plain_long b 2 (omega arith) (λ w. omega (arith, w))

  -- a place is still a place, with the same long
  place_moves : {b i : ℕ} {role next : Role} → Reached old b role → IsPlace old b role i next → (long new b i ≡ long old b i) × IsPlace new b role i next
  place_moves {b = b} r (root_page {i = i} l) =
      let at = reached_stands old t s r in
      let is = root_at old t s at.0 b at.1 in
      (ap (λ (c : ℕ). long new c (79 + i)) is ∙ page_long i l ∙ ap (λ (c : ℕ). long old c (79 + i)) (sym is), root_page (subst (λ (n : ℕ). i < page_count n) (sym count) l))
  place_moves {b = b} r (root_slot {s = q} l n) = let same = plain_long b (6 + q) (omega (arith, l)) (λ w. omega (arith, w, l)) in (same, root_slot l (λ z. n (sym same ∙ z)))
  place_moves {b = b} r (directory_slot {s = q} e l n) = let same = plain_long b (6 + q) (omega (arith, l)) (λ w. omega (arith, w, l)) in (same, directory_slot (type_same b ∙ e) l (λ z. n (sym same ∙ z)))
  place_moves {b = b} r (next_entry n) = let same = plain_long b 124 (omega arith) (λ w. omega (arith, w)) in (same, next_entry (λ z. n (sym same ∙ z)))
  place_moves {b = b} r (header_pointer {i = i} e p) = (plain_long b (77 - i) (omega arith) (λ w. omega (arith, w, p.0, p.1)), header_pointer (type_same b ∙ e) (subst (λ (n : ℕ). (i < n) × (n ≤ 72)) (sym (pointers b)) p))
  place_moves {b = b} r (first_extension e n) = let same = plain_long b 126 (omega arith) (λ w. omega (arith, w)) in (same, first_extension (type_same b ∙ e) (λ z. n (sym same ∙ z)))
  place_moves {b = b} r (extension_pointer {i = i} p) = (plain_long b (77 - i) (omega arith) (λ w. omega (arith, w, p.0, p.1)), extension_pointer (subst (λ (n : ℕ). (i < n) × (n ≤ 72)) (sym (pointers b)) p))
  place_moves {b = b} r (further_extension n) = let same = plain_long b 126 (omega arith) (λ w. omega (arith, w)) in (same, further_extension (λ z. n (sym same ∙ z)))

  pub reached_moves : {b : ℕ} {role : Role} → Reached old b role → Reached new b role
  reached_moves start = subst (λ (b : ℕ). Reached new b roles.Root) (ap root_key count) start
  reached_moves (named {block = b} {i = i} {role = role} {next = next} r p inside) =
      let moves = place_moves r p in
      let link = moves.0 in
      let within : IsInside (block_count new) (long new b i) = (omega (arith, inside.0, link), omega (arith, inside.1, link, count)) in
      subst (λ (c : ℕ). Reached new c next) link (named (reached_moves r) moves.1 within)

  -- the file is still a file
  pub type_stamped : (bytes : List ℕ) → node.content ≡ File bytes → secondary_type new file ≡ FILE_TYPE
  type_stamped bytes is = elim (root_or_parent t s.proper file node found) [
    | inl e ↦ absurd (not_root e)
    | inr p ↦ plain_long file 127 (omega arith) (λ w. omega (arith, w)) ∙ (s.entries file p.0 node found p.1).secondary ∙ ap type_of is
  ]

  -- a time stamp is in a field, even if the file is rewritten afterwards
  stamp_field : (bytes : List ℕ) → node.content ≡ File bytes → (last : List ℕ) → secondary_type last file ≡ FILE_TYPE → (b i : ℕ) (role role' : Role) → i < 512 → Reached old b role → Alike role role' → AtStamps (root t) file b i → IsField last b role' i
  stamp_field bytes is last typed b i role role' l r alike w =
      let at = reached_stands old t s r in
      alike_field role role' alike (changed_field old t s last b i at.0 role (type_after w) l at.1 (inr (stamps_written last b i w)))
    where
      type_after : AtStamps (root t) file b i → (a : Node) → t.nodes b ≡ Some a → b ≢ root t → secondary_type last b ≡ type_of a.content
      type_after (inl w) a e n =
          let same : node ≡ a = cc (found, sym (ap t.nodes w.0) ∙ e) in
          ap (secondary_type last) w.0 ∙ typed ∙ ap type_of (sym is ∙ ap (λ (x : Node). x.content) same)
      type_after (inr w) a e n = absurd (n w.0)

  -- what is untouched since the time stamp is untouched since before it
  pub kept_before : (bytes : List ℕ) → node.content ≡ File bytes → (last : List ℕ) → secondary_type last file ≡ FILE_TYPE → Kept old new → Kept new last → Kept old last
  kept_before bytes is last typed k g = record {
    size = g.size ∙ k.size;
    boot = g.boot ∙ k.boot;
    others = λ b i role role' l r r' alike n.
        g.others b i role role' l (reached_moves r) r' alike n ∙ h.same_byte b i l (λ w. n (stamp_field bytes is last typed b i role role' l r alike w));
    first = λ b f f'.
        let moved : IsFile new b = record { dir = f.dir; slot_of_chain = f.slot_of_chain; reached = reached_moves f.reached; secondary = type_same b ∙ f.secondary } in
        let firsts = first_stays old new b (plain_long b 2 (omega arith) (λ w. omega (arith, w))) (λ i l. plain_long b (77 - i) (omega arith) (λ w. omega (arith, w, l))) in
        let kept = g.first b moved f' in
        record { same = λ e. kept.same (e ∙ sym firsts) ∙ plain_long b 4 (omega arith) (λ w. omega (arith, w)); other = λ n. kept.other (λ e. n (e ∙ firsts)) };
  }

  -- ---- all that an image keeps

  stamps_told : (b i : ℕ) → AtStamps (root t) file b i → IsTold t b i
  stamps_told b i (inl (e, inl f)) = inl f
  stamps_told b i (inl (e, inr f)) = inr (omega (arith, f), omega (arith, f), λ z. omega (arith, f, z))
  stamps_told b i (inr (e, inl f)) = inl f
  stamps_told b i (inr (e, inr f)) = inr (omega (arith, f.0), omega (arith, f.1), λ z. omega (arith, f.0, z))

  pub stamps_kept : Kept old new
  stamps_kept = fields_kept old new t s (AtStamps (root t) file) h (stamps_written new) stamps_told

  pub stamps_untold : KeepsUntold old new
  stamps_untold = fields_untold old new t s (AtStamps (root t) file) h (stamps_written new) stamps_told

  pub marks_same : (b : ℕ) → IsInside (block_count old) b → has_free_bit new b ≡ has_free_bit old b
  marks_same = marks_stay old new t s (same_weaken (AtStamps (root t) file) (IsWritten old t s new) old new (stamps_written new) h)

  pub count_marked : free_bit_count new ≡ free_bit_count old
  count_marked =
      ap (λ (n : ℕ). total (λ k. cond (has_free_bit new (k + 2)) 1 0) (n - 2)) count
      ∙ total-same (λ k. cond (has_free_bit old (k + 2)) 1 0) (λ k. cond (has_free_bit new (k + 2)) 1 0) (block_count old - 2)
      (λ k l. ap (λ (v : Bool). cond v 1 0) (marks_same (k + 2) (omega arith, omega (arith, l))))

  -- ---- new blocks allocated afterwards

  pub lowest_before : (last : List ℕ) → TakesLowest new last → TakesLowest old last
  lowest_before last g = record {
    lowest = λ b other m i was is. g.lowest b other (moved b m) (i.0, omega (arith, i.1, count)) (marks_same other i ∙ was) is;
    zero_else = λ b i role m r l n. g.zero_else b i role (moved b m) r l n;
    first = λ b m f. g.first b (moved b m) f;
    data_rise = λ f k i j l m a b. g.data_rise f k i j l m (moved _ a) (moved _ b);
    extensions_rise = λ f k i j l m a b. g.extensions_rise f k i j l m (moved _ a) (moved _ b);
    in_turn = λ f k q i l m a b. g.in_turn f k q i l m (moved _ a) (moved _ b);
    zero_end = λ f q i k a m. g.zero_end f q i k (moved _ a) m;
  }
    where
      moved : (b : ℕ) → IsTaken old last b → IsTaken new last b
      moved b m = record { inside = (m.inside.0, omega (arith, m.inside.1, count)); was_free = marks_same b m.inside ∙ m.was_free; in_use = m.in_use }

  pub format_same : format_of new ≡ format_of old
  format_same = let kind = h.same_byte 0 3 (omega arith) (unchanged 0 0 3 (λ w. omega (arith, w)) refl) in rw kind refl

-- ---- the time stamp of a change, in three steps

-- a file's key is not the root
pub entry_key : (image : List ℕ) (file : ℕ) → HasFileKey image file → HasEntryKey image file
entry_key image file key t s =
    let f = file_of_key image t s file key in
    (rw f.at refl, file_not_root t file f.node f.bytes [] f.at f.content s.proper)

-- the protection bits in a file's header are those of its node
bits_field : (image : List ℕ) (t : Tree) (s : Stands image t) (file : ℕ) (f : IsFileNode image t s file) → long image file 80 ≡ f.node.protection
bits_field image t s file f = elim (root_or_parent t s.proper file f.node f.at) [
  | inl e ↦ absurd (file_not_root t file f.node f.bytes [] f.at f.content s.proper e)
  | inr p ↦ (s.entries file p.0 f.node f.at p.1).protection_field
]

module _ (moment : Date3) (bits file : ℕ) (t : Tree) (node : Node) (at : t.nodes file ≡ Some node) (is : bits ≡ without_archive node.protection) where
  same_node : (k : ℕ) → (stamped moment (dated file moment (protected file bits t))).nodes k ≡ (touched moment file t).nodes k
  same_node k = elim (cases_eq k file) [
    | inl e ↦ rw (eq-eqb k file e, eq-eqb file file refl, at) (ap (λ (b : ℕ). Some (record node { protection = b; date = moment })) is)
    | inr n ↦ rw (ne_eqb k file n) refl
  ]

module _ (moment : Date3) (bits file : ℕ) (old first : List ℕ) (tree : HasTree old) (key : HasFileKey old file)
    (first_stands : (t : Tree) → Stands old t → Stands first (protected file bits t)) (first_rest : SameBut (Summed file 320 324) old first) where
  pub first_key : HasKey first file
  first_key t s =
      let f = file_of_key old tree.0 tree.1 file key in
      let same : protected file bits tree.0 ≡ t = one_tree first (protected file bits tree.0) t (first_stands tree.0 tree.1) s in
      let some : IsSome ((protected file bits tree.0).nodes file) = rw (eq-eqb file file refl, f.at) refl in
      subst (λ (u : Tree). IsSome (u.nodes file)) same some

  module _ (second : List ℕ) (second_stands : (t : Tree) → Stands first t → Stands second (dated file moment t)) (second_rest : SameBut (Summed file 420 432) first second)
      (new : List ℕ) (third_stands : (t : Tree) → Stands second t → Stands new (stamped moment t)) (third_rest : SameBut (Summed (root_of second) 472 484) second new) (cleared : bits ≡ without_archive (long old file 80)) where
    abbrev r : ℕ
    r = root tree.0

    root_second : root_of second ≡ r
    root_second = ap root_key (same_count (Summed file 420 432) first second second_rest ∙ same_count (Summed file 320 324) old first first_rest) ∙ root_is old tree.0 tree.1

    third_same : SameBut (AtStamps r file) second new
    third_same =
        same_weaken (Summed (root_of second) 472 484) (AtStamps r file) second new
        (λ c k w. inr (elim w [ inl x ↦ (x.0 ∙ root_second, inr (omega (arith, x.1), omega (arith, x.2))) | inr x ↦ (x.0 ∙ root_second, inl x.1) ])) third_rest

    pub is_stamped : IsStamped moment old file new
    is_stamped = record {
      stands = λ t s.
          let f = file_of_key old t s file key in
          let is : bits ≡ without_archive f.node.protection = cleared ∙ ap without_archive (bits_field old t s file f) in
          subst (Stands new) (same_nodes (stamped moment t) (stamped moment (dated file moment (protected file bits t))).nodes (touched moment file t).nodes (same_node moment bits file t f.node f.at is))
          (third_stands (dated file moment (protected file bits t)) (second_stands (protected file bits t) (first_stands t s)));
      rest =
          subst (λ (n : ℕ). SameBut (AtStamps n file) old new) (sym (root_is old tree.0 tree.1))
          (same_trans (AtStamps r file) old first new
          (same_weaken (Summed file 320 324) (AtStamps r file) old first (λ c k w. inl (elim w [ inl x ↦ (x.0, inr (inl (omega (arith, x.1, x.2)))) | inr x ↦ (x.0, inl x.1) ])) first_rest)
          (same_trans (AtStamps r file) first second new
          (same_weaken (Summed file 420 432) (AtStamps r file) first second (λ c k w. inl (elim w [ inl x ↦ (x.0, inr (inr (omega (arith, x.1), omega (arith, x.2)))) | inr x ↦ (x.0, inl x.1) ])) second_rest)
          third_same));
    }
