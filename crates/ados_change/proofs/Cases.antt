-- Each change of a field: how it changes the node's block, and the tree that the image then represents.
use Rattle.ados_change.proofs.Common.{◌≡◌, ◌≢◌, ℕ, ◌+◌, ◌<◌, ◌≤◌, ◌⊎◌, inl, inr, List, length, Some, option_map, refl, sym, ap, ◌∙◌, subst, arith, eq-eqb, block_sum, HasText, protection, COMMENT_BYTE, NAME_BYTE, SameBut, same_weaken, Date3, IsName, IsComment, Node, Tree, Proper, IsRoot, root, HasEntry, Stands, date_at, changed, stamped, with_node, KeepsRest, root_or_parent, Summed, Restamped, IsPlain, IsWritten, of_node, same_count, IsSome, is_some, some_in, content_at, File, KeepsUntold, IsImage}
use Rattle.ados_change.proofs.Retells.{retold, Retells, Telling, Tells, stands_retold, contents, was}
use Rattle.ados_change.proofs.FieldsKept.{IsTold, keeps_fields, telling_told, telling_written, fields_untold}
use Rattle.ados_change.proofs.Summing.{text_beside, long_beside, date_beside}
use Rattle.ados_change.proofs.Changed.{same_with}
use Rattle.ados_change.proofs.Uses.{kinds_stay, uses_stay}

-- bytes low to high - 1 of the key's block may differ between the two nodes
pub record Case (t : Tree) (key : ℕ) (node after : Node) (d : Date3) (low high : ℕ) : Type 0 where
  pub retells : Retells t key node after d
  pub within : (i : ℕ) → low ≤ i → i < high → Telling t key after i

-- ---- the five changes

module _ (t : Tree) (p : Proper t) (key : ℕ) (node : Node) (at : t.nodes key ≡ Some node) where
  is_root : key ≡ root t → IsRoot node
  is_root e = let same : p.root_node.0 ≡ node = cc (p.root_node.1, ap t.nodes e, at) in subst IsRoot same p.root_node.2

  -- a node with the same parent and content; the root has no protection and no comment
  case : (after : Node) (d : Date3) (low high : ℕ) → after.parent ≡ node.parent → after.content ≡ node.content → IsName after.name → IsComment after.comment → (key ≢ root t → after.name ≡ node.name) → (key ≢ root t → d ≡ t.disk_date)
      → (key ≡ root t → after.protection ≡ node.protection) → (key ≡ root t → after.comment ≡ node.comment) → ((i : ℕ) → low ≤ i → i < high → Telling t key after i) → Case t key node after d low high
  case after d low high parent content name comment same_name same_disk bits text within = record {
    retells = record {
      at = at;
      parent = parent;
      content = content;
      name = name;
      comment = comment;
      same_name = same_name;
      same_disk = same_disk;
      no_protection = λ e. bits e ∙ (is_root e).no_protection;
      no_comment = λ e. text e ∙ (is_root e).no_comment;
    };
    within = within;
  }

  pub date_case : (date : Date3) → Case t key node (record node { date = date }) t.disk_date 420 432
  date_case date = case (record node { date = date }) t.disk_date 420 432 refl refl (p.name key node at) (p.comment key node at) (λ n. refl) (λ n. refl) (λ e. refl) (λ e. refl) (λ i l m. Telling.date l m)

  pub bits_case : (bits : ℕ) → key ≢ root t → Case t key node (record node { protection = bits }) t.disk_date 320 324
  bits_case bits n = case (record node { protection = bits }) t.disk_date 320 324 refl refl (p.name key node at) (p.comment key node at) (λ n. refl) (λ n. refl) (λ e. absurd (n e)) (λ e. refl) (λ i l m. Telling.bits n l m)

  pub comment_case : (comment : List ℕ) → IsComment comment → key ≢ root t → Case t key node (record node { comment = comment }) t.disk_date 328 (329 + length comment)
  comment_case comment valid n = case (record node { comment = comment }) t.disk_date 328 (329 + length comment) refl refl (p.name key node at) valid (λ n. refl) (λ n. refl) (λ e. refl) (λ e. absurd (n e)) (λ i l m. Telling.comment n l m)

  pub name_case : (name : List ℕ) → IsName name → key ≡ root t → Case t key node (record node { name = name }) t.disk_date 432 (433 + length name)
  name_case name valid e = case (record node { name = name }) t.disk_date 432 (433 + length name) refl refl valid (p.comment key node at) (λ n. absurd (n e)) (λ n. refl) (λ e. refl) (λ e. refl) (λ i l m. Telling.root_name e l m)

  pub stamp_case : (moment : Date3) → key ≡ root t → Case t key node node moment 472 484
  stamp_case moment e = case node moment 472 484 refl refl (p.name key node at) (p.comment key node at) (λ n. refl) (λ n. absurd (n e)) (λ e. refl) (λ e. refl) (λ i l m. Telling.disk_date e l m)

-- the node of a key that is changed
pub changed_node : (t : Tree) (key : ℕ) (node : Node) → t.nodes key ≡ Some node → (f : Node → Node) → (changed key f t).nodes key ≡ Some (f node)
changed_node t key node at f = rw (eq-eqb key key refl) (ap (option_map f) at)

-- ---- the tree that the image then represents

module _ (old new : List ℕ) (t : Tree) (s : Stands old t) (key : ℕ) (node : Node) (at : t.nodes key ≡ Some node) (sum : block_sum new key ≡ 0) where
  -- the unchanged fields
  module _ (low high : ℕ) (rest : SameBut (Summed key low high) old new) where
    name_stays : (463 ≤ low) ⊎ (high ≤ 432) → HasText new key NAME_BYTE node.name
    name_stays side =
        let short = s.proper.name key node at in
        text_beside key low high old new rest key NAME_BYTE node.name (omega arith) (omega (arith, short.short)) (elim side [ inl l ↦ inl (omega (arith, l, short.short)) | inr l ↦ inr l ]) (s.nodes key node at).name

    date_stays : (432 ≤ low) ⊎ (high ≤ 420) → date_at new key 105 ≡ node.date
    date_stays side = date_beside key low high old new rest key 105 (omega arith) (omega arith) side ∙ (s.nodes key node at).date

    disk_stays : (484 ≤ low) ⊎ (high ≤ 472) → key ≡ root t → date_at new key 118 ≡ t.disk_date
    disk_stays side e =
        date_beside key low high old new rest key 118 (omega arith) (omega arith) side
        ∙ ap (λ (b : ℕ). date_at old b 118) e ∙ s.root_fields.disk_date

    dir_of : key ≢ root t → (dir : ℕ) × (node.parent ≡ Some dir)
    dir_of n = elim (root_or_parent t s.proper key node at) [ inl e ↦ absurd (n e) | inr found ↦ found ]

    bits_stay : (324 ≤ low) ⊎ (high ≤ 320) → key ≢ root t → protection new key ≡ node.protection
    bits_stay side n =
        let dir = dir_of n in
        long_beside key low high old new rest key 80 (omega arith) (omega arith) side ∙ (s.entries key dir.0 node at dir.1).protection_field

    comment_stays : (408 ≤ low) ⊎ (high ≤ 328) → key ≢ root t → HasText new key COMMENT_BYTE node.comment
    comment_stays side n =
        let dir = dir_of n in
        let short = s.proper.comment key node at in
        text_beside key low high old new rest key COMMENT_BYTE node.comment (omega arith) (omega (arith, short.short)) (elim side [ inl l ↦ inl (omega (arith, l, short.short)) | inr l ↦ inr l ]) (s.entries key dir.0 node at dir.1).comment

  -- the image with these fields represents the tree with the node `after`
  told : (after : Node) (d : Date3) (low high : ℕ) → Case t key node after d low high → SameBut (Summed key low high) old new
      → HasText new key NAME_BYTE after.name → date_at new key 105 ≡ after.date → (key ≢ root t → protection new key ≡ after.protection)
      → (key ≢ root t → HasText new key COMMENT_BYTE after.comment) → (key ≡ root t → date_at new key 118 ≡ d)
      → Stands new (retold key after d t)
  told after d low high c rest name date bits comment disk =
      stands_retold old new t key node after d s c.retells (record {
        rest = same_weaken (Summed key low high) (Tells t key after) old new (λ b i w. elim w [ inl x ↦ (x.0, c.within i x.1 x.2) | inr x ↦ (x.0, Telling.sum x.1) ]) rest;
        sum = sum;
        name = name;
        date = date;
        bits = bits;
        comment = comment;
        disk = disk;
      })

  -- the node with one changed field is that of the changed tree
  from_changed : (f : Node → Node) (d : Date3) → Stands new (retold key (f node) d t) → Stands new (stamped d (changed key f t))
  from_changed f d h = subst (λ o. Stands new (stamped d (with_node key o t))) (sym (ap (option_map f) at)) h

  pub dated_stands : (date : Date3) → SameBut (Summed key 420 432) old new → date_at new key 105 ≡ date → Stands new (changed key (λ a. record a { date = date }) t)
  dated_stands date rest put =
      from_changed (λ a. record a { date = date }) t.disk_date
      (told (record node { date = date }) t.disk_date 420 432 (date_case t s.proper key node at date) rest
      (name_stays 420 432 rest (inr (omega arith))) put (bits_stay 420 432 rest (inl (omega arith))) (comment_stays 420 432 rest (inl (omega arith))) (disk_stays 420 432 rest (inr (omega arith))))

  pub protected_stands : (bits : ℕ) → key ≢ root t → SameBut (Summed key 320 324) old new → protection new key ≡ bits → Stands new (changed key (λ a. record a { protection = bits }) t)
  protected_stands bits n rest put =
      from_changed (λ a. record a { protection = bits }) t.disk_date
      (told (record node { protection = bits }) t.disk_date 320 324 (bits_case t s.proper key node at bits n) rest
      (name_stays 320 324 rest (inr (omega arith))) (date_stays 320 324 rest (inr (omega arith))) (λ _. put) (comment_stays 320 324 rest (inr (omega arith))) (disk_stays 320 324 rest (inr (omega arith))))

  pub commented_stands : (comment : List ℕ) → IsComment comment → key ≢ root t → SameBut (Summed key 328 (329 + length comment)) old new → HasText new key COMMENT_BYTE comment → Stands new (changed key (λ a. record a { comment = comment }) t)
  commented_stands comment valid n rest put =
      from_changed (λ a. record a { comment = comment }) t.disk_date
      (told (record node { comment = comment }) t.disk_date 328 (329 + length comment) (comment_case t s.proper key node at comment valid n) rest
      (name_stays 328 (329 + length comment) rest (inr (omega (arith, valid.short)))) (date_stays 328 (329 + length comment) rest (inr (omega (arith, valid.short))))
      (bits_stay 328 (329 + length comment) rest (inl (omega arith))) (λ _. put) (disk_stays 328 (329 + length comment) rest (inr (omega (arith, valid.short)))))

  pub named_stands : (name : List ℕ) → IsName name → key ≡ root t → SameBut (Summed key 432 (433 + length name)) old new → HasText new key NAME_BYTE name → Stands new (changed (root t) (λ a. record a { name = name }) t)
  named_stands name valid e rest put =
      subst (λ (k : ℕ). Stands new (changed k (λ a. record a { name = name }) t)) e
      (from_changed (λ a. record a { name = name }) t.disk_date
      (told (record node { name = name }) t.disk_date 432 (433 + length name) (name_case t s.proper key node at name valid e) rest
      put (date_stays 432 (433 + length name) rest (inl (omega arith))) (bits_stay 432 (433 + length name) rest (inl (omega arith)))
      (comment_stays 432 (433 + length name) rest (inl (omega arith))) (disk_stays 432 (433 + length name) rest (inr (omega (arith, valid.short))))))

  pub stamped_stands : (moment : Date3) → key ≡ root t → SameBut (Summed key 472 484) old new → date_at new key 118 ≡ moment → Stands new (stamped moment t)
  stamped_stands moment e rest put =
      subst (Stands new) (ap (stamped moment) (same_with key (Some node) t at))
      (told node moment 472 484 (stamp_case t s.proper key node at moment e) rest
      (name_stays 472 484 rest (inl (omega arith))) (date_stays 472 484 rest (inl (omega arith))) (bits_stay 472 484 rest (inl (omega arith)))
      (comment_stays 472 484 rest (inl (omega arith))) (λ _. put))

-- ---- what is unchanged

module _ (old new : List ℕ) (t : Tree) (s : Stands old t) (key : ℕ) (node : Node) (at : t.nodes key ≡ Some node) (low high : ℕ) where
  -- the bytes for the node are in fields
  module _ (after : Node) (d moment : Date3) (c : Case t key node after d low high) (u : Stands new (retold key after moment t)) where
    here : (retold key after moment t).nodes key ≡ Some after
    here = rw (eq-eqb key key refl) refl

    entry_told : key ≢ root t → (dir : ℕ) × HasEntry new key after dir
    entry_told n = elim (root_or_parent t s.proper key node at) [
      | inl e ↦ absurd (n e)
      | inr dir ↦ (dir.0, u.entries key dir.0 after here (c.retells.parent ∙ dir.1))
    ]

    written : (i : ℕ) → Telling t key after i → IsWritten old t s new key i
    written = telling_written old new t s key node after at c.retells.name c.retells.comment (λ e. (u.nodes key after here).name) (λ n. (entry_told n).1.comment)

    written_at : (b i : ℕ) → Summed key low high b i → IsWritten old t s new b i
    written_at b i (inl w) = subst (λ (k : ℕ). IsWritten old t s new k i) (sym w.0) (written i (c.within i w.1 w.2))
    written_at b i (inr w) = subst (λ (k : ℕ). IsWritten old t s new k i) (sym w.0) (written i (Telling.sum w.1))

    told_at : (b i : ℕ) → Summed key low high b i → IsTold t b i
    told_at b i (inl w) = subst (λ (k : ℕ). IsTold t k i) (sym w.0) (telling_told old new t s key after c.retells.name c.retells.comment i (c.within i w.1 w.2))
    told_at b i (inr w) = inl w.1

    keeps_retold : (r : ℕ) → r ≡ root t → SameBut (Restamped r key low high) old new → IsImage new → KeepsRest old new
    keeps_retold r e rest is =
        keeps_fields old new t s (Restamped r key low high) rest restamped told
        (uses_stay old new t (retold key after moment t) s u (same_count (Restamped r key low high) old new rest) stays was_there (λ b. refl) was_file)
        (kinds_stay old new t (retold key after moment t) s u (same_count (Restamped r key low high) old new rest) stays was_there (λ b. refl) was_file) is
      where
        was_there : (k : ℕ) → IsSome ((retold key after moment t).nodes k) → IsSome (t.nodes k)
        was_there k m =
            let a = some_in ((retold key after moment t).nodes k) m in
            let b = was t key node after d c.retells k a.0 a.1 in
            ap is_some b.1

        root_at : (b : ℕ) → b ≡ r → t.nodes b ≡ Some s.proper.root_node.0
        root_at b d = ap t.nodes (d ∙ e) ∙ s.proper.root_node.1

        restamped : (b i : ℕ) → Restamped r key low high b i → IsWritten old t s new b i
        restamped b i (inl w) = written_at b i w
        restamped b i (inr (inl w)) = of_node s.proper.root_node.0 (root_at b w.0) (IsPlain.disk (w.0 ∙ e) (omega (arith, w.1)) (omega (arith, w.2)))
        restamped b i (inr (inr w)) = of_node s.proper.root_node.0 (root_at b w.0) (IsPlain.sum w.1)

        told : (b i : ℕ) → Restamped r key low high b i → IsTold t b i
        told b i (inl w) = told_at b i w
        told b i (inr (inl w)) = inr (omega (arith, w.1), omega (arith, w.2), λ z. omega (arith, w.1, z))
        told b i (inr (inr w)) = inl w.1

        stays : KeepsUntold old new
        stays = fields_untold old new t s (Restamped r key low high) rest restamped told

        was_file : (file : ℕ) (bytes : List ℕ) → content_at (retold key after moment t) file ≡ Some (File bytes) → content_at t file ≡ Some (File bytes)
        was_file file bytes is = sym (contents t key node after d c.retells file) ∙ is

  -- a field is changed, and then the disk date
  pub keeps_restamped : (f : Node → Node) → Case t key node (f node) t.disk_date low high → (moment : Date3) → Stands new (stamped moment (changed key f t))
      → (r : ℕ) → r ≡ root t → SameBut (Restamped r key low high) old new → IsImage new → KeepsRest old new
  keeps_restamped f c moment h r e rest is = keeps_retold (f node) t.disk_date moment c (subst (λ o. Stands new (stamped moment (with_node key o t))) (ap (option_map f) at) h) r e rest is
