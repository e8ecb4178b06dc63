-- An image with a rewritten file represents the tree in which the file has its new bytes.
use Rattle.ados_change.proofs.Common.{eq-eqb, ne_eqb, ◌≡◌, ◌≢◌, ℕ, ◌+◌, ◌<◌, ◌⊎◌, inl, inr, List, length, slice_index, Contains, Some, refl, sym, ap, ◌∙◌, subst, arith, cases_eq, get_or_default, Format, page_count, long, block_sum, Chained, table_entry, COMMENT_BYTE, NAME_BYTE, NEXT_IN_CHAIN, page_block, pages_of, data_count, Content, Node, Tree, root, HasFile, Duty, Stands, HasNode, HasEntry, type_of, in_slot, IsOther, IsDataField, next_of, chained, Directory, File, count_same, slice_get-index, entry_at, chain_head}
use Rattle.ados_change.proofs.Writable.{key_serves, page_serves, lawful_pages, is_lawful, format_is}
use Rattle.ados_change.proofs.Changed.{was, was_with}
use Rattle.ados_change.proofs.Contents.{holding, refilled, file_not_root, proper_after, slots_same}
use Rattle.ados_change.proofs.Unchanged.{StaysBut, Stays, long_stays, text_stays, date_stays, long_as, bytes_as, node_as, entry_as, root_as, file_stays}
use Rattle.ados_change.proofs.Relaid.{IsRewritten, relaid, not_header, other, fits_after, marked_free_after, marked_used_after}
use Rattle.ados_data.proofs.Untouched.{still_summed}

-- a long of a header outside the fields of its data
beside_fields : (j : ℕ) → (j < 2) ⊎ ((77 < j) × (j ≢ 81) × (j ≢ 126)) → ¬ IsDataField j
beside_fields j l e = omega (arith, l, e)

module _ (old new : List ℕ) (t : Tree) (s : Stands old t) (file : ℕ) (node : Node) (bytes : List ℕ) (found : t.nodes file ≡ Some node) (is_file : node.content ≡ File bytes)
    (blocks' extensions' bytes' : List ℕ) (h : IsRewritten old file (s.layout.file_data file) (s.layout.extensions file) new blocks' extensions' bytes') where
  abbrev v : Tree
  v = refilled file bytes' t

  -- ---- what is unchanged

  stays_other : (b : ℕ) → IsOther old file (s.layout.file_data file) (s.layout.extensions file) b → Stays old new b
  stays_other b o = record { size = h.leaves.same_length; bytes = λ k l n. h.leaves.others b k l o }

  pub boot_stays : (b : ℕ) → b < 2 → Stays old new b
  boot_stays b l =
      let places = (is_lawful old t s file node bytes found is_file).places in
      stays_other b (record {
        inside = omega (arith, l, count_same old t s, s.proper.size.0);
        used = λ m. absurd (omega (arith, l, m));
        beside_pages = λ p m e. let i = (lawful_pages old t s).inside p m in omega (arith, l, i.0, e);
        beside_headers = λ q m e. let i = places.headers_inside q m in omega (arith, l, i.0, e);
        beside_data = λ j m e. let i = places.data_inside j m in omega (arith, l, i.0, e);
      })

  pub key_stays : (k : ℕ) (a : Node) → t.nodes k ≡ Some a → k ≢ file → Stays old new k
  key_stays k a e n =
      stays_other k (other old new t s file node bytes found is_file blocks' extensions' bytes' h k Duty.Key (key_serves old t s k a e) (record { no_data = λ i z. cc z; no_extension = λ q z. cc z }) n (λ p z. cc z))

  pub data_stays : (f i : ℕ) → f ≢ file → i < length (s.layout.file_data f) → Stays old new (slice_index (s.layout.file_data f) i)
  data_stays f i n l =
      let m = slice_get-index (s.layout.file_data f) i l in
      stays_other _ (other old new t s file node bytes found is_file blocks' extensions' bytes' h _ (Duty.Data f i) m (record { no_data = λ j z. let same : f ≡ file = cc z in n same; no_extension = λ q z. cc z }) (not_header old new t s file node bytes found is_file blocks' extensions' bytes' h _ (Duty.Data f i) m (λ z. cc z)) (λ p z. cc z))

  pub extension_stays : (f q : ℕ) → f ≢ file → q < length (s.layout.extensions f) → Stays old new (slice_index (s.layout.extensions f) q)
  extension_stays f q n l =
      let m = slice_get-index (s.layout.extensions f) q l in
      stays_other _ (other old new t s file node bytes found is_file blocks' extensions' bytes' h _ (Duty.Extension f q) m (record { no_data = λ j z. cc z; no_extension = λ j z. let same : f ≡ file = cc z in n same }) (not_header old new t s file node bytes found is_file blocks' extensions' bytes' h _ (Duty.Extension f q) m (λ z. cc z)) (λ p z. cc z))

  pub header_stays : StaysBut IsDataField old new file
  header_stays = record { size = h.leaves.same_length; bytes = λ k l n. h.leaves.header k l n }

  pub root_stays : Stays old new (root t)
  root_stays = key_stays (root t) s.proper.root_node.0 s.proper.root_node.1 (λ e. file_not_root t file node bytes bytes' found is_file s.proper (sym e))

  -- a long of a header outside the fields of its data
  header_long : (j : ℕ) → j < 128 → (j < 2) ⊎ ((77 < j) × (j ≢ 81) × (j ≢ 126)) → long new file j ≡ long old file j
  header_long j l o = long_stays IsDataField old new file header_stays j l (beside_fields j o)

  -- ---- nodes

  file_node : (a : Node) → t.nodes file ≡ Some a → HasNode new file a
  file_node a e =
      let n = s.nodes file a e in
      let short = (s.proper.name file a e).short in
      record {
        primary = header_long 0 (omega arith) (inl (omega arith)) ∙ n.primary;
        sum = still_summed old new file h.leaves.header_sum n.sum;
        name = text_stays IsDataField old new file header_stays NAME_BYTE a.name (omega (arith, short)) (λ j from below. beside_fields j (inr (omega (arith, from), λ z. omega (arith, z, from), λ z. omega (arith, z, below, short)))) n.name;
        date = date_stays IsDataField old new file header_stays 105 (omega arith) (λ j from below. beside_fields j (inr (omega (arith, from), λ z. omega (arith, z, from), λ z. omega (arith, z, below)))) ∙ n.date;
      }

  old_node : (k : ℕ) (a : Node) → t.nodes k ≡ Some a → HasNode new k a
  old_node k a e = elim (cases_eq k file) [
    | inl same ↦ subst (λ (b : ℕ). HasNode new b a) (sym same) (file_node a (ap t.nodes (sym same) ∙ e))
    | inr m ↦ node_as old new k (key_stays k a e m) a (s.proper.name k a e) (s.nodes k a e)
  ]

  node_after : (k : ℕ) (a : Node) → v.nodes k ≡ Some a → HasNode new k a
  node_after k a e =
      let w = was (holding bytes') file t k a e in
      was_with (HasNode new k) (holding bytes') file t k a (λ b n. record { primary = n.primary; sum = n.sum; name = n.name; date = n.date }) w (old_node k w.old w.at)

  -- ---- entries

  file_entry : (a : Node) (d : ℕ) → t.nodes file ≡ Some a → a.parent ≡ Some d → HasEntry new file a d
  file_entry a d e p =
      let n = s.entries file d a e p in
      let short = (s.proper.comment file a e).short in
      record {
        key_field = header_long 1 (omega arith) (inl (omega arith)) ∙ n.key_field;
        protection_field = header_long 80 (omega arith) (inr (omega arith, λ z. omega (arith, z), λ z. omega (arith, z))) ∙ n.protection_field;
        comment = text_stays IsDataField old new file header_stays COMMENT_BYTE a.comment (omega (arith, short)) (λ j from below. beside_fields j (inr (omega (arith, from), λ z. omega (arith, z, from), λ z. omega (arith, z, below, short)))) n.comment;
        parent = header_long 125 (omega arith) (inr (omega arith, λ z. omega (arith, z), λ z. omega (arith, z))) ∙ n.parent;
        secondary = header_long 127 (omega arith) (inr (omega arith, λ z. omega (arith, z), λ z. omega (arith, z))) ∙ n.secondary;
      }

  old_entry : (k d : ℕ) (a : Node) → t.nodes k ≡ Some a → a.parent ≡ Some d → HasEntry new k a d
  old_entry k d a e p = elim (cases_eq k file) [
    | inl same ↦ subst (λ (b : ℕ). HasEntry new b a d) (sym same) (file_entry a d (ap t.nodes (sym same) ∙ e) p)
    | inr m ↦ entry_as old new k (key_stays k a e m) a d (s.proper.comment k a e) (s.entries k d a e p)
  ]

  entry_after : (k d : ℕ) (a : Node) → v.nodes k ≡ Some a → a.parent ≡ Some d → HasEntry new k a d
  entry_after k d a e p =
      let w = was (holding bytes') file t k a e in
      let n = old_entry k d w.old w.at (elim (w.how) [ inl h ↦ ap (λ (b : Node). b.parent) (sym h.1) ∙ p | inr h ↦ ap (λ (b : Node). b.parent) (sym h.1) ∙ p ]) in
      elim (w.how) [
        | inl h ↦ subst (λ (b : Node). HasEntry new k b d) (sym h.1) n
        | inr h ↦
            let is : w.old ≡ node = cc (w.at, ap t.nodes h.0 ∙ found) in
            subst (λ (b : Node). HasEntry new k b d) (sym h.1) (record {
              key_field = n.key_field;
              protection_field = n.protection_field;
              comment = n.comment;
              parent = n.parent;
              secondary = n.secondary ∙ ap type_of (ap (λ (b : Node). b.content) is ∙ is_file);
            })
      ]

  -- ---- hash chains

  link_stays : (k : ℕ) (a : Node) → t.nodes k ≡ Some a → long new k NEXT_IN_CHAIN ≡ long old k NEXT_IN_CHAIN
  link_stays k a e = elim (cases_eq k file) [
    | inl same ↦ ap (λ (b : ℕ). long new b 124) same ∙ header_long 124 (omega arith) (inr (omega arith, λ z. omega (arith, z), λ z. omega (arith, z))) ∙ ap (λ (b : ℕ). long old b 124) (sym same)
    | inr m ↦ long_as old new k (key_stays k a e m) 124 (omega arith)
  ]

  old_chain : (d : ℕ) (a : Node) (keys : List ℕ) (r : ℕ) → t.nodes d ≡ Some a → a.content ≡ Directory keys → d ≢ file → r < 72 → Chained new NEXT_IN_CHAIN (table_entry new d r) (in_slot t d r)
  old_chain d a keys r e c m l =
      let chain = s.chains d a keys r e c l in
      chained new NEXT_IN_CHAIN (table_entry new d r) (in_slot t d r)
      (long_as old new d (key_stays d a e m) (6 + r) (omega (arith, l)) ∙ chain_head old NEXT_IN_CHAIN (table_entry old d r) (in_slot t d r) chain)
      (λ i n.
      let at = entry_at old t s d r i (slice_index (in_slot t d r) i) (record { within = n; here = refl; holder = l }) in
      link_stays _ at.node at.at ∙ next_of old NEXT_IN_CHAIN (table_entry old d r) (in_slot t d r) chain i n)

  chain_after : (d : ℕ) (a : Node) (keys : List ℕ) (r : ℕ) → v.nodes d ≡ Some a → a.content ≡ Directory keys → r < 72 → Chained new NEXT_IN_CHAIN (table_entry new d r) (in_slot v d r)
  chain_after d a keys r e c l =
      let w = was (holding bytes') file t d a e in
      subst (Chained new NEXT_IN_CHAIN (table_entry new d r)) (sym (slots_same t file node bytes bytes' found is_file d r))
      (elim (w.how) [
        | inl h ↦ old_chain d w.old keys r w.at (ap (λ (b : Node). b.content) (sym h.1) ∙ c) h.0 l
        | inr h ↦ absurd (let kind : Content.File bytes' ≡ Directory keys = ap (λ (b : Node). b.content) (sym h.1) ∙ c in cc kind)
      ])

  -- ---- files

  other_file : (f : ℕ) (a : Node) (bs : List ℕ) → t.nodes f ≡ Some a → a.content ≡ File bs → f ≢ file → HasFile new t.format f (s.layout.file_data f) (s.layout.extensions f) bs
  other_file f a bs e c n =
      let lawful = is_lawful old t s f a bs e c in
      file_stays old new t.format f (s.layout.file_data f) (s.layout.extensions f) bs (λ j o. long_as old new f (key_stays f a e n) j (omega (arith, o))) (λ q l. extension_stays f q n l) (λ i l. data_stays f i n l)
      (omega (arith, s.fits.extensions f)) (subst (λ (g : Format). length (s.layout.file_data f) ≡ data_count g (length bs)) (format_is old t s) lawful.data_fits) (s.files f a bs e c)

  file_after : (f : ℕ) (a : Node) (bs : List ℕ) → v.nodes f ≡ Some a → a.content ≡ File bs → HasFile new t.format f ((relaid s.layout file blocks' extensions').file_data f) ((relaid s.layout file blocks' extensions').extensions f) bs
  file_after f a bs e c =
      let w = was (holding bytes') file t f a e in
      elim (w.how) [
        | inl z ↦ rw (ne_eqb f file z.0) (other_file f w.old bs w.at (ap (λ (b : Node). b.content) (sym z.1) ∙ c) z.0)
        | inr z ↦
            let kind : Content.File bytes' ≡ File bs = ap (λ (b : Node). b.content) (sym z.1) ∙ c in
            let is : bytes' ≡ bs = cc kind in
            rw (eq-eqb f file z.0) (subst (λ (g : ℕ). HasFile new t.format g blocks' extensions' bs) (sym z.0)
            (subst (λ (xs : List ℕ). HasFile new t.format file blocks' extensions' xs) is (subst (λ (g : Format). HasFile new g file blocks' extensions' bytes') (h.format ∙ format_is old t s) h.writable.lawful.holds)))
      ]

  -- ---- bitmap blocks

  page_after : (page : ℕ) → Contains s.layout.pages page → block_sum new page ≡ 0
  page_after page m =
      let here : slice_index s.layout.pages m.0 ≡ page = get_or_default s.layout.pages m.0 0 page m.1 ∙ m.2 in
      let within : m.0 < pages_of old = omega (arith, m.1, s.fits.pages, ap page_count (count_same old t s)) in
      let is : page_block old m.0 ≡ page = cc (page_serves old t s m.0 within, slice_get-index s.layout.pages m.0 m.1, here) in
      ap (block_sum new) (sym is) ∙ still_summed old new (page_block old m.0) (h.leaves.page_sums m.0 within) (ap (block_sum old) is ∙ s.pages page m)

  pub stands_after : Stands new v
  stands_after = record {
    proper = proper_after t file node bytes bytes' found is_file s.proper;
    layout = relaid s.layout file blocks' extensions';
    fits = fits_after old new t s file node bytes found is_file blocks' extensions' bytes' h;
    whole = h.leaves.same_length ∙ s.whole;
    boot = bytes_as old new 0 (boot_stays 0 (omega arith)) 0 4 (omega arith) ∙ s.boot;
    root_fields =
        let lay = relaid s.layout file blocks' extensions' in
        root_as old new t s.layout v.nodes lay.file_data lay.extensions (omega (arith, s.fits.pages, s.proper.size.1)) root_stays s.root_fields;
    nodes = node_after;
    entries = entry_after;
    pages = page_after;
    lost = λ b bs e.
        bytes_as old new b (stays_other b (other old new t s file node bytes found is_file blocks' extensions' bytes' h b Duty.Lost (rw e refl) (record { no_data = λ i z. cc z; no_extension = λ q z. cc z })
        (not_header old new t s file node bytes found is_file blocks' extensions' bytes' h b Duty.Lost (rw e refl) (λ z. cc z)) (λ p z. cc z))) 0 512 (omega arith) ∙ s.lost b bs e;
    chains = chain_after;
    files = file_after;
    marked_free = marked_free_after old new t s file node bytes found is_file blocks' extensions' bytes' h;
    marked_used = marked_used_after old new t s file node bytes found is_file blocks' extensions' bytes' h;
  }

  -- its layout
  pub layout_after : stands_after.layout ≡ relaid s.layout file blocks' extensions'
  unfolding stands_after
  layout_after = refl
