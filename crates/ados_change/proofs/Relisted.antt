-- A link of a hash chain and the date of its directory change: the image represents the tree with the directory's new
-- list.
use Rattle.ados_change.proofs.Common.{◌≡◌, ◌≢◌, ℕ, ◌+◌, ◌/◌, ◌<◌, ◌≤◌, ◌⊎◌, inl, inr, List, [], ◌∷◌, Contains, Option, Some, None, is_some, IsSome, option_map, refl, sym, ap, ◌∙◌, subst, arith, same_trans, same_weaken, cases_eq, block_sum, long, Chained, table_entry, NAME_BYTE, NEXT_IN_CHAIN, SameBut, same_sum, Date3, AtLinks, Relinks, link_block, link_long, Contains-here, Contains-later, Content, Node, Tree, root, size_in, Directory, File, listed, date_at, Layout, HasNode, HasEntry, type_of, in_slot, Dated, Chained-kept}
use Rattle.ados_change.proofs.Unchanged.{AtLongs, AtDate, long-kept, sum-kept, dated_longs}
use Rattle.ados_change.proofs.Changed.{nodes_here, nodes_other, changed_keeps, each_keeps, was, relisted}
use Rattle.ados_change.proofs.Loose.{Loose, Spells}
use Rattle.ados_change.proofs.Reframed.{TellsOnly, Telling, SameFiles, first_kept, text_stays, date_stays, entry_stays, reframed}

-- where a link of a directory's hash chains may be: in its hash table, or in an entry
pub data IsLinkPlace (t : Tree) (dir b i : ℕ) : Type 0 where
  in_table : b ≡ dir → 6 ≤ i → i < 78 → IsLinkPlace t dir b i
  in_entry : (node : Node) → t.nodes b ≡ Some node → b ≢ root t → i ≡ NEXT_IN_CHAIN → IsLinkPlace t dir b i

place_long : {t : Tree} {dir b i : ℕ} → IsLinkPlace t dir b i → ((6 ≤ i) × (i < 78)) ⊎ (i ≡ 124)
place_long (in_table e m n) = inl (m, n)
place_long (in_entry node f n e) = inr e

-- the link after entries of a hash chain is in such a place
pub link_place : (t : Tree) (dir b i : ℕ) (front : List ℕ) → IsLinkPlace t dir b i → ((k : ℕ) → Contains front k → (node : Node) × (t.nodes k ≡ Some node) × (k ≢ root t)) → IsLinkPlace t dir (link_block b front) (link_long i front)
link_place t dir b i [] at entry = at
link_place t dir b i (k ∷ ks) at entry =
    let n = entry k (Contains-here k ks) in
    link_place t dir k NEXT_IN_CHAIN ks (in_entry n.0 n.1 n.2 refl) (λ j m. entry j (Contains-later k ks j m))

module _ (old mid new : List ℕ) (t : Tree) (l : Layout) (loose_key : ℕ) (s : Spells old t l) (loose : Loose t loose_key)
    (dir : ℕ) (a : Node) (keys : List ℕ) (at : t.nodes dir ≡ Some a) (holds : a.content ≡ Directory keys)
    (key : ℕ) (node : Node) (at_key : t.nodes key ≡ Some node) (no_root : key ≢ root t)
    (b0 i0 next : ℕ) (place : IsLinkPlace t dir b0 i0) (relinks : Relinks b0 i0 next key old mid)
    (moment : Date3) (redated : Dated dir 105 moment mid new) where
  -- the longs of both changes
  abbrev W : ℕ → ℕ → Type 0
  W b j = ((((b ≡ b0) × (j ≡ i0)) ⊎ ((b ≡ b0) × (j ≡ 5))) ⊎ (((b ≡ key) × (j ≡ NEXT_IN_CHAIN)) ⊎ ((b ≡ key) × (j ≡ 5)))) ⊎ AtDate dir 105 b j

  redate : SameBut (AtLongs (AtDate dir 105)) mid new
  redate = dated_longs dir 105 moment mid new redated

  change : SameBut (AtLongs W) old new
  change = same_trans (AtLongs W) old mid new (same_weaken (AtLinks b0 i0 key) (AtLongs W) old mid (λ b i w. inl w) relinks.rest) (same_weaken (AtLongs (AtDate dir 105)) (AtLongs W) mid new (λ b i w. inr w) redate)

  no_file : (b : ℕ) → b ≡ dir → (c : Node) (bytes : List ℕ) → t.nodes b ≡ Some c → c.content ≡ File bytes → ⊥
  no_file b e c bytes f g =
      let same : c ≡ a = cc (sym (ap t.nodes e) ∙ f, at) in
      let there : c.content ≡ Directory keys = ap (λ (n : Node). n.content) same ∙ holds in
      cc (there, g)

  tells : TellsOnly t W
  tells = record { of_key = of_key; telling = telling }
    where
      linked : IsLinkPlace t dir b0 i0 → IsSome (t.nodes b0)
      linked (in_table e m n) = ap is_some (ap t.nodes e ∙ at)
      linked (in_entry n f m e) = ap is_some f

      of_key : (b j : ℕ) → W b j → IsSome (t.nodes b)
      of_key b j (inl (inl w)) = let e : b ≡ b0 = omega (arith, w) in ap is_some (ap t.nodes e) ∙ linked place
      of_key b j (inl (inr w)) = let e : b ≡ key = omega (arith, w) in ap is_some (ap t.nodes e ∙ at_key)
      of_key b j (inr w) = ap is_some (ap t.nodes w.0 ∙ at)

      placed : (b j : ℕ) → b ≡ b0 → j ≡ i0 → IsLinkPlace t dir b0 i0 → Telling t b j
      placed b j e f (in_table d m n) = inr (inl (no_file b (e ∙ d), omega (arith, f, m), omega (arith, f, n)))
      placed b j e f (in_entry n g m d) = inr (inr (inr (inr (λ r. m (sym e ∙ r), omega (arith, f, d), omega (arith, f, d)))))

      telling : (b j : ℕ) → W b j → Telling t b j
      telling b j (inl (inl (inl (e, f)))) = placed b j e f place
      telling b j (inl (inl (inr (e, f)))) = inl f
      telling b j (inl (inr (inl (e, f)))) = inr (inr (inr (inr (λ r. no_root (sym e ∙ r), omega (arith, f), omega (arith, f)))))
      telling b j (inl (inr (inr (e, f)))) = inl f
      telling b j (inr (e, inr (f, g))) = inr (inr (inr (inl (f, omega (arith, g)))))
      telling b j (inr (e, inl f)) = inl f

  -- a long outside hash tables, links, dates and checksums
  free : (b j : ℕ) → ((78 ≤ j) × (j < 105)) ⊎ (((108 ≤ j) × (j < 124)) ⊎ (j ≡ 125)) → ¬ W b j
  free b j o w = omega (arith, o, w, place_long place)

  sum_after : (k : ℕ) → block_sum old k ≡ 0 → block_sum new k ≡ 0
  sum_after k was = elim (cases_eq k dir) [
    | inl e ↦ ap (block_sum new) e ∙ redated.sum (ap (block_sum mid) (sym e) ∙ linked (cases_eq k key) (cases_eq k b0))
    | inr n ↦ sum-kept (AtDate dir 105) mid new redate k (λ j m w. n w.0) ∙ linked (cases_eq k key) (cases_eq k b0)
  ]
    where
      linked : (k ≡ key) ⊎ (k ≡ key → ⊥) → (k ≡ b0) ⊎ (k ≡ b0 → ⊥) → block_sum mid k ≡ 0
      linked (inl e) c = ap (block_sum mid) e ∙ relinks.key_sum
      linked (inr n) (inl e) = ap (block_sum mid) e ∙ relinks.link_sum
      linked (inr n) (inr m) = same_sum (AtLinks b0 i0 key) old mid relinks.rest k (λ j o w. elim w [ inl x ↦ elim x [ inl y ↦ m y.0 | inr y ↦ m y.0 ] | inr x ↦ elim x [ inl y ↦ n y.0 | inr y ↦ n y.0 ] ]) ∙ was

  module _ (list : List ℕ) (chains : (d : ℕ) (b : Node) (ks : List ℕ) (q : ℕ) → t.nodes d ≡ Some b → b.content ≡ Directory ks → q < 72 → Chained mid NEXT_IN_CHAIN (table_entry mid d q) (in_slot (listed moment dir list t) d q)) where
    abbrev u : Tree
    u = listed moment dir list t

    node_after : (k : ℕ) (b : Node) → u.nodes k ≡ Some b → HasNode new k b
    node_after k b e =
        let w = was (relisted moment list) dir t k b e in
        let g = s.nodes k w.old w.at in
        let short = loose.name k w.old w.at in
        let named = text_stays old new t l s loose W tells change k NAME_BYTE w.old.name (omega (arith, short.short)) (λ j p q. free k (j / 4) (inr (inl (omega arith, omega (arith, q, short.short))))) g.name in
        let primary = first_kept old new t l s loose W tells change k 0 (omega arith) ∙ g.primary in
        elim (w.how) [
          | inl h ↦ subst (HasNode new k) (sym h.1) (record {
            primary = primary;
            sum = sum_after k g.sum;
            name = named;
            date = date_stays old new t l s loose W tells change k 105 (omega arith) (λ j p q w. omega (arith, h.0, p, q, w, place_long place)) ∙ g.date;
          })
          | inr h ↦ subst (HasNode new k) (sym h.1) (record {
            primary = primary;
            sum = sum_after k g.sum;
            name = named;
            date = ap (λ (i : ℕ). date_at new i 105) h.0 ∙ redated.date;
          })
        ]

    entry_after : (k d : ℕ) (b : Node) → u.nodes k ≡ Some b → b.parent ≡ Some d → HasEntry new k b d
    entry_after k d b e p =
        let w = was (relisted moment list) dir t k b e in
        let comment = loose.comment k w.old w.at in
        let stays : (o : Option ℕ) → w.old.parent ≡ Some d → HasEntry new k w.old d = λ o q.
        entry_stays old new t l s loose W tells change k d w.old comment (λ j m n. free k j (inl (omega arith, omega arith))) (free k 125 (inr (inr refl))) (s.entries k d w.old w.at q) in
        elim (w.how) [
          | inl h ↦ subst (λ (n : Node). HasEntry new k n d) (sym h.1) (stays None (sym (ap (λ (n : Node). n.parent) h.1) ∙ p))
          | inr h ↦
              let g = stays None (sym (ap (λ (n : Node). n.parent) h.1) ∙ p) in
              let same : w.old ≡ a = cc (sym (ap t.nodes h.0) ∙ w.at, at) in
              subst (λ (n : Node). HasEntry new k n d) (sym h.1) (record {
                key_field = g.key_field;
                protection_field = g.protection_field;
                comment = g.comment;
                parent = g.parent;
                secondary = g.secondary ∙ ap (λ (n : Node). type_of n.content) same ∙ ap type_of holds;
              })
        ]

    same_files : SameFiles t u.nodes
    same_files = record {
      same_keys = changed_keeps is_some (relisted moment list) dir t (each_keeps is_some (relisted moment list) (λ b. refl));
      was_file = λ k b bytes e c.
          let w = was (relisted moment list) dir t k b e in
          elim (w.how) [
            | inl h ↦ (w.old, w.at, ap (λ (n : Node). n.content) (sym h.1) ∙ c)
            | inr h ↦ absurd (let there : Directory list ≡ File bytes = sym (ap (λ (n : Node). n.content) h.1) ∙ c in cc there)
          ];
      same_size = λ d k. elim (cases_eq k dir) [
        | inl e ↦ ap (λ (n : Option Node). size_in (option_map (λ node. node.content) n)) (ap u.nodes e ∙ nodes_here dir (option_map (relisted moment list) (t.nodes dir)) t ∙ ap (option_map (relisted moment list)) at)
            ∙ sym (ap (λ (n : Option Node). size_in (option_map (λ node. node.content) n)) (ap t.nodes e ∙ at) ∙ ap (λ (c : Content). size_in (Some c)) holds)
        | inr n ↦ ap (λ (n : Option Node). size_in (option_map (λ node. node.content) n)) (nodes_other dir (option_map (relisted moment list) (t.nodes dir)) t k n)
      ];
    }

    chains_after : (d : ℕ) (b : Node) (ks : List ℕ) (q : ℕ) → u.nodes d ≡ Some b → b.content ≡ Directory ks → q < 72 → Chained new NEXT_IN_CHAIN (table_entry new d q) (in_slot u d q)
    chains_after d b ks q e c m =
        let w = was (relisted moment list) dir t d b e in
        let directory : (ls : List ℕ) × (w.old.content ≡ Directory ls) = elim (w.how) [
          | inl h ↦ (ks, ap (λ (n : Node). n.content) (sym h.1) ∙ c)
          | inr h ↦ let same : w.old ≡ a = cc (sym (ap t.nodes h.0) ∙ w.at, at) in (keys, ap (λ (n : Node). n.content) same ∙ holds)
        ] in
        let undated_long : (i j : ℕ) → j < 128 → (j < 105) ⊎ (108 ≤ j) → j ≢ 5 → long new i j ≡ long mid i j = λ i j n o p.
        long-kept (AtDate dir 105) mid new redate i j n (λ z. elim (z.1) [ inl x ↦ p x | inr x ↦ elim o [ inl y ↦ omega (arith, x.0, y) | inr y ↦ omega (arith, x.1, y) ] ]) in
        subst (λ (first : ℕ). Chained new NEXT_IN_CHAIN first (in_slot u d q)) (sym (undated_long d (6 + q) (omega (arith, m)) (inl (omega (arith, m))) (omega arith)))
        (Chained-kept mid new NEXT_IN_CHAIN (table_entry mid d q) (in_slot u d q) (λ i n. undated_long i 124 (omega arith) (inr (omega arith)) (omega arith)) (chains d w.old directory.0 q w.at directory.1 m))

    pub relisted_spells : Spells new (listed moment dir list t) l
    relisted_spells = reframed old new t l s loose W tells change u.nodes t.disk_date same_files (date_stays old new t l s loose W tells change (root t) 118 (omega arith) (λ j p q. free (root t) j (inr (inl (omega arith, omega arith)))) ∙ s.root_fields.disk_date) node_after (λ k d b e p. entry_after k d b e p) chains_after
