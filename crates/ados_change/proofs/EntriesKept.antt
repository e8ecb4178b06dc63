-- A change of fields or of entries leaves all bytes outside fields untouched.
use Rattle.ados_change.proofs.Common.{◌≡◌, ◌≢◌, ℕ, ◌+◌, ◌-◌, ◌/◌, ◌<◌, ◌≤◌, ◌⊎◌, inl, inr, List, length, Some, refl, sym, ap, ◌∙◌, subst, arith, InLongs, pointer_count, byte_at, long, secondary_type, COMMENT_BYTE, NAME_BYTE, SameBut, same_long, same_weaken, boot_same, Content, Node, Tree, root, Directory, File, Duty, HasDuty, Stands, type_of, Role, IsFile, Kept, KeepsFirstData, IsField, Alike, InText, root_longs, root_name, page_longs, directory_longs, file_longs, entry_name, entry_comment, extension_longs, ofs_data_longs, ofs_data, ffs_data, root_or_parent, StandsAt, IsFileNode, file_at, reached_stands, serves_at, duty_of, root_at, entry_at, KeepsAfterName, IsChanged, IsPage, IsPlain, IsWritten, sum, table, bits, date, disk, link, of_none, of_node, of_name, of_comment, Bool, NEXT_IN_CHAIN, InBlock, OnlyBlock, HasFreeBit, MapPlace, BitChanged, page_block, page_of, Date3, AtLinks, Relinks, AtTitle, Dated, Titled}
use Rattle.ados_model.specs.Kept.{directory_runs, file_runs}
use Rattle.ados_model.specs.declared.role.Role.TheVariants as roles
use Rattle.ados_change.proofs.Keeping.{header_stays}
use Rattle.ados_change.proofs.Unchanged.{AtDate, AtLongs, dated_longs}
use Rattle.ados_change.proofs.Relisted.{IsLinkPlace}
use Rattle.ados_change.proofs.Relisted.IsLinkPlace.{in_table, in_entry}
use Rattle.ados_change.proofs.Loose.{parent_not_root}

module _ (old : List ℕ) (t : Tree) (st : Stands old t) (new : List ℕ) where
  pub page_changed : (m m' : List ℕ) → SameBut (λ b i. IsPage old t st b) m m' → SameBut (IsChanged old t st new) m m'
  page_changed m m' h = same_weaken (λ b i. IsPage old t st b) (IsChanged old t st new) m m' (λ b i w. inl w) h

  pub written_changed : (m m' : List ℕ) → SameBut (IsWritten old t st new) m m' → SameBut (IsChanged old t st new) m m'
  written_changed m m' h = same_weaken (IsWritten old t st new) (IsChanged old t st new) m m' (λ b i w. inr w) h

  -- a block with a use other than a key is not written
  pub unwritten : (b i : ℕ) (duty : Duty) → HasDuty t st.layout b duty → duty ≢ Duty.Key → ¬ IsWritten old t st new b i
  unwritten b i duty m n (of_none l used none) = none duty m
  unwritten b i duty m n (of_node a e p) = n (st.fits.one_duty b duty Duty.Key m (rw e refl))
  unwritten b i duty m n (of_name a e p short) = n (st.fits.one_duty b duty Duty.Key m (rw e refl))
  unwritten b i duty m n (of_comment a e o p short) = n (st.fits.one_duty b duty Duty.Key m (rw e refl))

-- where such a long is
pub plain_at : {top b : ℕ} {a : Node} {j : ℕ} → IsPlain top b a j → (j ≡ 5) ⊎ (((6 ≤ j) × (j < 78)) ⊎ (((b ≢ top) × (j ≡ 80)) ⊎ (((105 ≤ j) × (j < 108)) ⊎ (((b ≡ top) × (118 ≤ j) × (j < 121)) ⊎ ((b ≢ top) × (124 ≤ j) × (j < 126))))))
plain_at (sum e) = inl e
plain_at (table keys c m n) = inr (inl (m, n))
plain_at (bits n e) = inr (inr (inl (n, e)))
plain_at (date m n) = inr (inr (inr (inl (m, n))))
plain_at (disk e m n) = inr (inr (inr (inr (inl (e, m, n)))))
plain_at (link n m o) = inr (inr (inr (inr (inr (n, m, o)))))

-- a byte of a field is a byte of a field in each role of the same kind
pub alike_field : {image : List ℕ} {b i : ℕ} (role role' : Role) → Alike role role' → IsField image b role i → IsField image b role' i
alike_field roles.Root roles.Root alike f = f
alike_field roles.Page roles.Page alike f = f
alike_field (roles.Entry dir q) (roles.Entry dir' q') alike (directory_longs e m) = directory_longs e m
alike_field (roles.Entry dir q) (roles.Entry dir' q') alike (file_longs e m) = file_longs e m
alike_field (roles.Entry dir q) (roles.Entry dir' q') alike (entry_name m) = entry_name m
alike_field (roles.Entry dir q) (roles.Entry dir' q') alike (entry_comment m) = entry_comment m
alike_field (roles.Data file) (roles.Data file') alike (ofs_data_longs o m) = ofs_data_longs o m
alike_field (roles.Data file) (roles.Data file') alike (ofs_data o l m) = ofs_data o l m
alike_field (roles.Data file) (roles.Data file') alike (ffs_data n) = ffs_data n
alike_field (roles.Extension file) (roles.Extension file') alike (extension_longs m) = extension_longs m
alike_field _ _ alike f = absurd alike

-- a byte of a field of directories and of files is a byte of a field of an entry
pub entry_longs : {image : List ℕ} {b dir s i : ℕ} (c : Content) → secondary_type image b ≡ type_of c → InLongs directory_runs i → InLongs (file_runs (pointer_count image b)) i → IsField image b (roles.Entry dir s) i
entry_longs (Directory keys) e d f = directory_longs e d
entry_longs (File bytes) e d f = file_longs e f

-- ---- a byte of the footprint is in a field

module _ (old : List ℕ) (t : Tree) (st : Stands old t) (new : List ℕ) where
  root_field : (i : ℕ) (a : Node) → IsPlain (root t) (root t) a (i / 4) → IsField new (root t) roles.Root i
  root_field i a (sum e) = root_longs (2, (5, 78), omega arith, refl, (omega (arith, e), omega (arith, e)))
  root_field i a (table keys c m n) = root_longs (2, (5, 78), omega arith, refl, (omega (arith, m), omega (arith, n)))
  root_field i a (bits n e) = absurd (n refl)
  root_field i a (date m n) = root_longs (4, (105, 107), omega arith, refl, (omega (arith, m), omega (arith, n)))
  root_field i a (disk e m n) = root_longs (5, (118, 123), omega arith, refl, (omega (arith, m), omega (arith, n)))
  root_field i a (link n m o) = absurd (n refl)

  entry_field : (b i dir q : ℕ) (a : Node) → b ≢ root t → secondary_type new b ≡ type_of a.content → IsPlain (root t) b a (i / 4) → IsField new b (roles.Entry dir q) i
  entry_field b i dir q a n e (sum f) = entry_longs a.content e (1, (5, 77), omega arith, refl, (omega (arith, f), omega (arith, f))) (1, (4, 5), omega arith, refl, (omega (arith, f), omega (arith, f)))
  entry_field b i dir q a n e (table keys c m o) = directory_longs (e ∙ ap type_of c) (1, (5, 77), omega arith, refl, (omega (arith, m), omega (arith, o)))
  entry_field b i dir q a n e (bits m f) = entry_longs a.content e (2, (80, 80), omega arith, refl, (omega (arith, f), omega (arith, f))) (3, (80, 81), omega arith, refl, (omega (arith, f), omega (arith, f)))
  entry_field b i dir q a n e (date m o) = entry_longs a.content e (3, (105, 107), omega arith, refl, (omega (arith, m), omega (arith, o))) (4, (105, 107), omega arith, refl, (omega (arith, m), omega (arith, o)))
  entry_field b i dir q a n e (disk f m o) = absurd (n f)
  entry_field b i dir q a n e (link f m o) = entry_longs a.content e (4, (124, 125), omega arith, refl, (omega (arith, m), omega (arith, o))) (5, (124, 127), omega arith, refl, (omega (arith, m), omega (arith, o)))

  -- a reached block of a node is the root or an entry
  node_field : (b i k : ℕ) (role : Role) (a : Node) → (b ≢ root t → secondary_type new b ≡ type_of a.content) → t.nodes b ≡ Some a → IsPlain (root t) b a (i / 4) → StandsAt old t st role k b → duty_of old t st role k ≡ Duty.Key → IsField new b role i
  node_field b i k roles.Root a typed e p at d =
      let r = root_at old t st k b at in
      subst (λ (x : ℕ). IsField new x roles.Root i) (sym r) (root_field i a (subst (λ (x : ℕ). IsPlain (root t) x a (i / 4)) r p))
  node_field b i k (roles.Entry dir q) a typed e p at d =
      let n = entry_at old t st dir q k b at in
      let no_root = parent_not_root t st.proper.root_node b dir (rw n.at n.parent) in
      entry_field b i dir q a no_root (typed no_root) p
  node_field b i k _ a typed e p at d = absurd (cc d)

  page_field : (b i k p : ℕ) (role : Role) → i < 512 → duty_of old t st role k ≡ Duty.Page p → IsField new b role i
  page_field b i k p roles.Page m d = page_longs (0, (0, 127), omega arith, refl, (omega arith, omega (arith, m)))
  page_field b i k p _ m d = absurd (cc d)

  -- a text of a node: a name, or the comment of an entry
  text_field : (b i k : ℕ) (role : Role) → InText new b NAME_BYTE i ⊎ ((b ≢ root t) × InText new b COMMENT_BYTE i) → StandsAt old t st role k b → duty_of old t st role k ≡ Duty.Key → IsField new b role i
  text_field b i k roles.Root (inl name) at d = root_name name
  text_field b i k roles.Root (inr comment) at d = absurd (comment.0 (root_at old t st k b at))
  text_field b i k (roles.Entry dir q) (inl name) at d = entry_name name
  text_field b i k (roles.Entry dir q) (inr comment) at d = entry_comment comment.1
  text_field b i k _ text at d = absurd (cc d)

  -- the whole footprint is in fields, by the type that the block has afterwards
  pub changed_field : (b i k : ℕ) (role : Role) → ((a : Node) → t.nodes b ≡ Some a → b ≢ root t → secondary_type new b ≡ type_of a.content) → i < 512 → StandsAt old t st role k b → IsChanged old t st new b i → IsField new b role i
  changed_field b i k role typed m at w = go w
    where
      serves : HasDuty t st.layout b (duty_of old t st role k)
      serves = serves_at old t st role k b at

      of_key : (a : Node) → t.nodes b ≡ Some a → duty_of old t st role k ≡ Duty.Key
      of_key a e = st.fits.one_duty b (duty_of old t st role k) Duty.Key serves (rw e refl)

      go : IsChanged old t st new b i → IsField new b role i
      go (inl p) = page_field b i k p.0 role m (st.fits.one_duty b (duty_of old t st role k) (Duty.Page p.0) serves p.1)
      go (inr (of_none l used n)) = absurd (n (duty_of old t st role k) serves)
      go (inr (of_node a e p)) = node_field b i k role a (typed a e) e p at (of_key a e)
      go (inr (of_name a e text short)) = text_field b i k role (inl text) at (of_key a e)
      go (inr (of_comment a e n text short)) = text_field b i k role (inr (n, text)) at (of_key a e)

module _ (old new : List ℕ) (t : Tree) (st : Stands old t) (h : SameBut (IsChanged old t st new) old new) where
  pub not_boot : (b i : ℕ) → b < 2 → ¬ IsChanged old t st new b i
  not_boot b i l (inl p) = let inside = st.fits.inside b (Duty.Page p.0) p.1 in omega (arith, l, inside.0)
  not_boot b i l (inr (of_none m used n)) = omega (arith, l, m)
  not_boot b i l (inr (of_node a e p)) = let inside = st.proper.inside b a e in omega (arith, l, inside.0)
  not_boot b i l (inr (of_name a e p short)) = let inside = st.proper.inside b a e in omega (arith, l, inside.0)
  not_boot b i l (inr (of_comment a e n p short)) = let inside = st.proper.inside b a e in omega (arith, l, inside.0)

  -- a byte of a node's block outside such longs, its comment and its name is not changed
  node_unchanged : (b i : ℕ) (a : Node) → t.nodes b ≡ Some a → ((x : Node) → ¬ IsPlain (root t) b x (i / 4)) → COMMENT_BYTE + 80 ≤ i → (InText new b NAME_BYTE i → i ≤ NAME_BYTE + 30 → ⊥) → ¬ IsChanged old t st new b i
  node_unchanged b i a at plain behind name (inl p) = let duty : Duty.Page p.0 ≡ Duty.Key = st.fits.one_duty b (Duty.Page p.0) Duty.Key p.1 (rw at refl) in cc duty
  node_unchanged b i a at plain behind name (inr (of_none two used none)) = none Duty.Key (rw at refl)
  node_unchanged b i a at plain behind name (inr (of_node x e p)) = plain x p
  node_unchanged b i a at plain behind name (inr (of_name x e text short)) = name text short
  node_unchanged b i a at plain behind name (inr (of_comment x e n text short)) = omega (arith, behind, short)

  -- nothing after a node's name is written
  pub behind_name : (key : ℕ) (a : Node) → t.nodes key ≡ Some a → (name : List ℕ) → byte_at new key NAME_BYTE ≡ length name → KeepsAfterName key name old new
  behind_name key a at name counted i above within = h.same_byte key i (omega (arith, within)) (node_unchanged key i a at (λ x p. omega (arith, above, within, plain_at p)) (omega (arith, above)) (λ text short. omega (arith, text.1, counted, above)))

  typed : (b : ℕ) (a : Node) → t.nodes b ≡ Some a → b ≢ root t → secondary_type new b ≡ type_of a.content
  typed b a e n = elim (root_or_parent t st.proper b a e) [ inl r ↦ absurd (n r) | inr p ↦ same_long (IsChanged old t st new) old new h b 127 (omega arith) (λ k f. node_unchanged b k a e (λ x p. omega (arith, f, plain_at p)) (omega (arith, f)) (λ text short. omega (arith, f, short))) ∙ (st.entries b p.0 a e p.1).secondary ]

  -- the fields of a file's data in its header are not changed
  front_unchanged : (b i : ℕ) → IsFileNode old t st b → i / 4 < 78 → i / 4 ≢ 5 → ¬ IsChanged old t st new b i
  front_unchanged b i f l n (inl p) = let duty = st.fits.one_duty b (Duty.Page p.0) Duty.Key p.1 (rw f.at refl) in cc duty
  front_unchanged b i f l n (inr (of_none m used none)) = none Duty.Key (rw f.at refl)
  front_unchanged b i f l n (inr (of_name a e text short)) = omega (arith, l, text.0)
  front_unchanged b i f l n (inr (of_comment a e m text short)) = omega (arith, l, text.0)
  front_unchanged b i f l n (inr (of_node a e p)) = go p
    where
      go : IsPlain (root t) b a (i / 4) → ⊥
      go (sum d) = n d
      go (table keys c from below) =
          let same : a ≡ f.node = cc (e, f.at) in
          let both : Directory keys ≡ File f.bytes = sym c ∙ ap (λ (x : Node). x.content) same ∙ f.content in
          cc both
      go (bits d e) = omega (arith, l, e)
      go (date from below) = omega (arith, l, from)
      go (disk d from below) = omega (arith, l, from)
      go (link d from below) = omega (arith, l, from)

  first_kept : (b : ℕ) → IsFile old b → KeepsFirstData old new b
  first_kept b f =
      let at = reached_stands old t st f.reached in
      let file = file_at old t st f.dir f.slot_of_chain at.0 b at.1 f.secondary in
      header_stays old new b (stays file 2 (omega arith) (omega arith)) (λ i l. stays file (77 - i) (omega arith) (omega (arith, l))) (stays file 4 (omega arith) (omega arith))
    where
      stays : IsFileNode old t st b → (j : ℕ) → j < 78 → j ≢ 5 → long new b j ≡ long old b j
      stays file j l n = same_long (IsChanged old t st new) old new h b j (omega (arith, l)) (λ k e. front_unchanged b k file (omega (arith, l, e)) (λ d. n (sym e ∙ d)))

  pub changed_kept : Kept old new
  changed_kept = record {
    size = h.same_length;
    boot = boot_same old new h.same_length (λ b i l m. h.same_byte b i m (not_boot b i l));
    others = λ b i role role' m a a' alike n. h.same_byte b i m (λ w. let at = reached_stands old t st a in n (alike_field role role' alike (changed_field old t st new b i at.0 role (typed b) m at.1 w)));
    first = λ b f g. first_kept b f;
  }

-- ---- each step of a change of entries writes only fields

module _ (old : List ℕ) (t : Tree) (st : Stands old t) (new : List ℕ) where
  abbrev pub At : ℕ → ℕ → Type 0
  At = IsWritten old t st new

  -- the block of a node other than the root, or a block newly in use
  abbrev pub IsKnown : ℕ → Type 0
  IsKnown b = ((node : Node) × (t.nodes b ≡ Some node) × (b ≢ root t)) ⊎ ((2 ≤ b) × (¬ HasFreeBit new b) × ((duty : Duty) → ¬ HasDuty t st.layout b duty))

  -- the next-in-chain long or the checksum of such a block
  known_link : (b i : ℕ) → IsKnown b → (i / 4 ≡ NEXT_IN_CHAIN) ⊎ (i / 4 ≡ 5) → At b i
  known_link b i (inl n) (inl e) = of_node n.0 n.1 (link n.2 (omega (arith, e)) (omega (arith, e)))
  known_link b i (inl n) (inr e) = of_node n.0 n.1 (sum e)
  known_link b i (inr n) e = of_none n.0 n.1 n.2

  -- a link of a directory's hash chains, or the checksum of its block, in a tree with known nodes
  place_written : (u : Tree) (dir b i0 : ℕ) (d : Node) (keys : List ℕ) → t.nodes dir ≡ Some d → d.content ≡ Directory keys → ((k : ℕ) (x : Node) → u.nodes k ≡ Some x → k ≢ root u → IsKnown k) → IsLinkPlace u dir b i0 → (i : ℕ) → (i / 4 ≡ i0) ⊎ (i / 4 ≡ 5) → At b i
  place_written u dir b i0 d keys at holds known (in_table e m n) i (inl f) = of_node d (ap t.nodes e ∙ at) (table keys holds (omega (arith, f, m)) (omega (arith, f, n)))
  place_written u dir b i0 d keys at holds known (in_table e m n) i (inr f) = of_node d (ap t.nodes e ∙ at) (sum f)
  place_written u dir b i0 d keys at holds known (in_entry x f n e) i (inl g) = known_link b i (known b x f n) (inl (g ∙ e))
  place_written u dir b i0 d keys at holds known (in_entry x f n e) i (inr g) = known_link b i (known b x f n) (inr g)

  pub linked_kept : (u : Tree) (dir b i0 next key : ℕ) (d : Node) (keys : List ℕ) → t.nodes dir ≡ Some d → d.content ≡ Directory keys → ((k : ℕ) (x : Node) → u.nodes k ≡ Some x → k ≢ root u → IsKnown k) → IsLinkPlace u dir b i0 → IsKnown key → (m m' : List ℕ) → Relinks b i0 next key m m' → SameBut At m m'
  linked_kept u dir b i0 next key d keys at holds known place of_key m m' r = same_weaken (AtLinks b i0 key) At m m' within r.rest
    where
      within : (c i : ℕ) → AtLinks b i0 key c i → At c i
      within c i (inl w) = let e : c ≡ b = omega (arith, w) in subst (λ (x : ℕ). At x i) (sym e) (place_written u dir b i0 d keys at holds known place i (elim w [ inl x ↦ inl x.1 | inr x ↦ inr x.1 ]))
      within c i (inr w) = let e : c ≡ key = omega (arith, w) in subst (λ (x : ℕ). At x i) (sym e) (known_link key i of_key (elim w [ inl x ↦ inl x.1 | inr x ↦ inr x.1 ]))

  pub dated_kept : (dir : ℕ) (d : Node) → t.nodes dir ≡ Some d → (moment : Date3) (m m' : List ℕ) → Dated dir 105 moment m m' → SameBut At m m'
  dated_kept dir d at moment m m' r =
      same_weaken (AtLongs (AtDate dir 105)) At m m' (λ c i w. of_node d (ap t.nodes w.0 ∙ at) (elim (w.1) [ inl f ↦ sum f | inr f ↦ date f.0 f.1 ])) (dated_longs dir 105 moment m m' r)

  pub stamped_kept : (moment : Date3) (m m' : List ℕ) → Dated (root t) 118 moment m m' → SameBut At m m'
  stamped_kept moment m m' r =
      same_weaken (AtLongs (AtDate (root t) 118)) At m m' (λ c i w. of_node st.proper.root_node.0 (ap t.nodes w.0 ∙ st.proper.root_node.1) (elim (w.1) [ inl f ↦ sum f | inr f ↦ disk w.0 f.0 f.1 ]))
      (dated_longs (root t) 118 moment m m' r)

  pub marked_kept : (key : ℕ) (free : Bool) (m m' : List ℕ) → IsPage old t st (page_block m (page_of key)) → BitChanged m key free m' → SameBut (λ b i. IsPage old t st b) m m'
  marked_kept key free m m' page r = same_weaken (MapPlace m key) (λ b i. IsPage old t st b) m m' (λ c i w. subst (IsPage old t st) (sym w.0) page) r.rest

  pub filled_kept : (key : ℕ) → 2 ≤ key → ¬ HasFreeBit new key → ((duty : Duty) → ¬ HasDuty t st.layout key duty) → (m m' : List ℕ) → OnlyBlock key m m' → SameBut At m m'
  filled_kept key l used none m m' h = same_weaken (InBlock key) At m m' (λ c i w. subst (λ (x : ℕ). At x i) (sym w) (of_none l used none)) h

  pub titled_kept : (key dir : ℕ) (name : List ℕ) (d : Node) → t.nodes key ≡ Some d → key ≢ root t → byte_at new key NAME_BYTE ≡ length name → length name ≤ 30 → (m m' : List ℕ) → Titled key dir name m m' → SameBut At m m'
  titled_kept key dir name d at n counted short m m' r = same_weaken (AtTitle key (length name)) At m m' within r.rest
    where
      within : (c i : ℕ) → AtTitle key (length name) c i → At c i
      within c i (e, inl f) = of_node d (ap t.nodes e ∙ at) (sum f)
      within c i (e, inr (inl f)) = subst (λ (x : ℕ). At x i) (sym e) (of_name d at (f.0, omega (arith, f.1, counted)) (omega (arith, f.1, short)))
      within c i (e, inr (inr f)) = subst (λ (x : ℕ). At x i) (sym e) (of_node d at (link n (omega (arith, f)) (omega (arith, f))))
