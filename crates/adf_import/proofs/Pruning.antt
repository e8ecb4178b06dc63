-- The progress of removing everything below an entry.
use Rattle.std.proofs.Common.{◌≡◌, ◌≢◌, ℕ, ◌⊎◌, inl, inr, Bool, true, false, not, ◌==◌, if◌then◌else◌, List, [], ◌∷◌, ◌++◌, filter, map, reverse, Contains, Option, Some, None, IsSome, is_some, option_map, refl, sym, ap, ap₂, ◌∙◌, subst, append_assoc}
use Rattle.adf_import.proofs.Common.{option_map_or, cases_eq, Contains-append_cases, Contains-append_left, Contains-append_right, Date3, Once, Once-apart, Contains-split, Contains-cases, Contains-here, Contains-later, Contains-nil, Node, Tree, Proper, entries, parent_of, parent_in, one_tree, Stands, removed, IsUnder, itself, by_parent as under_parent, nodes_here, nodes_other, relisted, no_loop, StandsUnder, AreKeysBelow, GoesThrough, HasTree, none, one_more}
use Rattle.std.specs.Prelude.{option_and_then}
use Rattle.std.proofs.lemmas.List.{append-nil, map-append, reverse-append}
use Rattle.ados_model.proofs.KeyLists.{Once-before}
use Rattle.ados_model.specs.Tree.{entries_in}
use Rattle.ados_model.proofs.Nodes.{directory_node}
use Rattle.ados_model.specs.Change.{left, listed}
use Rattle.ados_change.specs.Conditions.{CanRemove}
use Rattle.ados_change.proofs.Changed.{listed_parents}
use Rattle.ados_model.specs.Objects.{is_under}
use Rattle.ados_volume.proofs.Distinct.{Contains-one}
use Rattle.ados_volume.proofs.Under.{under_is_told}
use Rattle.ados_change.specs.NewBlocks.{KeepsRest}
use Rattle.adf_import.specs.Pruned.{RemovesInTurn, pruned}
use Rattle.adf_import.proofs.KeysBelow.{among, held_key, not_top, own_before}

-- of the keys below an entry, the last ones are removed and these are left; everything else is unchanged
pub record IsShrunk (t u : Tree) (key : ℕ) (rest gone : List ℕ) : Type 0 where
  pub blocks : u.blocks ≡ t.blocks
  pub format : u.format ≡ t.format
  pub creation_date : u.creation_date ≡ t.creation_date
  pub lost : u.lost ≡ t.lost
  pub outside : (k : ℕ) → ¬ Contains (key ∷ (rest ++ gone)) k → u.nodes k ≡ t.nodes k
  pub gone_nodes : (k : ℕ) → Contains gone k → u.nodes k ≡ None
  pub parents : (k : ℕ) → Contains (key ∷ rest) k → parent_of u k ≡ parent_of t k

pub shrunk_at_first : (t : Tree) (key : ℕ) (rest : List ℕ) → IsShrunk t t key rest []
shrunk_at_first t key rest = record {
  blocks = refl;
  format = refl;
  creation_date = refl;
  lost = refl;
  outside = λ k n. refl;
  gone_nodes = λ k c. absurd (Contains-nil k c);
  parents = λ k c. refl;
}

-- a number is in a list, or is not
contains_or_not : (xs : List ℕ) (x : ℕ) → Contains xs x ⊎ (¬ Contains xs x)
contains_or_not [] x = inr (Contains-nil x)
contains_or_not (y ∷ ys) x = elim (cases_eq y x) [
  | inl same ↦ inl (subst (Contains (y ∷ ys)) same (Contains-here y ys))
  | inr other ↦ elim (contains_or_not ys x) [
    | inl c ↦ inl (Contains-later y ys x c)
    | inr n ↦ inr (λ c. elim (Contains-cases y ys x c) [ inl same ↦ other same | inr d ↦ n d ])
  ]
]

-- a list without elements is empty
no_entries : (xs : List ℕ) → ((x : ℕ) → Contains xs x → ⊥) → xs ≡ []
no_entries [] h = refl
no_entries (x ∷ xs) h = absurd (h x (Contains-here x xs))

-- the nodes of a tree without one entry
module _ (u : Tree) (moment : Date3) (key dir : ℕ) (up : parent_of u key ≡ Some dir) where
  others : List ℕ
  others = filter (λ k. not (k == key)) (entries u dir)

  left_is : left moment key u ≡ listed moment dir others u
  unfolding others
  left_is = ap (λ (o : Option ℕ). option_map_or (λ d. listed moment d (filter (λ k. not (k == key)) (entries u d)) u) o u) up

  removed_here : (removed moment key u).nodes key ≡ None
  removed_here = nodes_here key None (left moment key u)

  removed_other : (k : ℕ) → k ≢ key → k ≢ dir → (removed moment key u).nodes k ≡ u.nodes k
  removed_other k a b = nodes_other key None (left moment key u) k a ∙ ap (λ (v : Tree). v.nodes k) left_is ∙ nodes_other dir (option_map (relisted moment others) (u.nodes dir)) u k b

  removed_dir : dir ≢ key → (removed moment key u).nodes dir ≡ option_map (relisted moment others) (u.nodes dir)
  removed_dir a = nodes_other key None (left moment key u) dir a ∙ ap (λ (v : Tree). v.nodes dir) left_is ∙ nodes_here dir (option_map (relisted moment others) (u.nodes dir)) u

  removed_parent : (k : ℕ) → k ≢ key → parent_of (removed moment key u) k ≡ parent_of u k
  removed_parent k a =
      ap (option_and_then (λ node. node.parent)) (nodes_other key None (left moment key u) k a ∙ ap (λ (v : Tree). v.nodes k) left_is) ∙ listed_parents moment dir others u k

module _ (t : Tree) (moment : Date3) (key : ℕ) (proper : Proper t) (keys : List ℕ) (below : AreKeysBelow t key keys) where
  -- the next entry to remove: the last of those left
  module _ (u : Tree) (proper_now : Proper u) (rest gone : List ℕ) (e : ℕ) (split : keys ≡ (rest ++ e ∷ []) ++ gone) (shrunk : IsShrunk t u key (rest ++ e ∷ []) gone) where
    split_here : keys ≡ rest ++ e ∷ gone
    split_here = split ∙ append_assoc rest (e ∷ []) gone

    is_among : Contains keys e
    is_among = subst (λ (ks : List ℕ). Contains ks e) (sym split_here) (Contains-append_right rest (e ∷ gone) e (Contains-here e gone))

    held : StandsUnder t key e
    held = held_key t proper key keys below e is_among

    e_left : Contains (key ∷ (rest ++ e ∷ [])) e
    e_left = Contains-later key (rest ++ e ∷ []) e (Contains-append_right rest (e ∷ []) e (Contains-here e []))

    up_now : parent_of u e ≡ Some held.0
    up_now = shrunk.parents e e_left ∙ held.1

    e_other : e ≢ key
    e_other = not_top t proper key keys below e is_among

    -- no remaining entry is in it
    none_in : (x : ℕ) → Contains (entries u e) x → ⊥
    none_in x c = elim (contains_or_not (key ∷ ((rest ++ e ∷ []) ++ gone)) x) [
      | inl m ↦ elim (Contains-cases key ((rest ++ e ∷ []) ++ gone) x m) [
        | inl same ↦ is_left x (subst (Contains (key ∷ (rest ++ e ∷ []))) same (Contains-here key (rest ++ e ∷ []))) up_of_x (λ d. not_top t proper key keys below x d (sym same))
        | inr n ↦ elim (Contains-append_cases (rest ++ e ∷ []) gone x n) [
          | inl l ↦ before x l up_of_x
          | inr g ↦ let none : parent_of u x ≡ None = ap (option_and_then (λ node. node.parent)) (shrunk.gone_nodes x g) in cc (none, up_of_x)
        ]
      ]
      | inr out ↦
          let up : parent_of t x ≡ Some e = ap (option_and_then (λ node. node.parent)) (sym (shrunk.outside x out)) ∙ up_of_x in
          out (Contains-later key ((rest ++ e ∷ []) ++ gone) x (subst (λ (ks : List ℕ). Contains ks x) split (below.all e x (Contains-later key keys e is_among) ((proper.listed e x).1 up))))
    ]
      where
        up_of_x : parent_of u x ≡ Some e
        up_of_x = (proper_now.listed e x).0 c

        -- the contents of the entry are among them
        is_left : (x : ℕ) → Contains (key ∷ (rest ++ e ∷ [])) x → parent_of u x ≡ Some e → ¬ Contains keys x → ⊥
        is_left x l up out =
            let was : parent_of t x ≡ Some e = sym (shrunk.parents x l) ∙ up in
            out (below.all e x (Contains-later key keys e is_among) ((proper.listed e x).1 was))

        -- no contents of the entry come before it
        before : (x : ℕ) → Contains (rest ++ e ∷ []) x → parent_of u x ≡ Some e → ⊥
        before x l up =
            let was : parent_of t x ≡ Some e = sym (shrunk.parents x (Contains-later key (rest ++ e ∷ []) x l)) ∙ up in
            elim (Contains-append_cases rest (e ∷ []) x l) [
              | inl in_front ↦
                  let s = Contains-split rest x in_front in
                  let whole : keys ≡ s.0 ++ x ∷ (s.1 ++ e ∷ gone) = split_here ∙ ap (λ (ks : List ℕ). ks ++ e ∷ gone) s.2 ∙ append_assoc s.0 (x ∷ s.1) (e ∷ gone) in
                  let m = own_before t proper key keys below s.0 x (s.1 ++ e ∷ gone) whole e was in
                  elim (Contains-cases key s.0 e m) [
                    | inl same ↦ e_other (sym same)
                    | inr f ↦ Once-apart s.0 (x ∷ (s.1 ++ e ∷ gone)) e (subst Once whole below.once) f (Contains-later x (s.1 ++ e ∷ gone) e (Contains-append_right s.1 (e ∷ gone) e (Contains-here e gone)))
                  ]
              | inr own ↦
                  let same : e ≡ x = Contains-one e x own in
                  let n = parent_in (t.nodes x) e was in
                  no_loop t proper x e (proper.rooted x n.0 n.1) was (itself same)
            ]

    pub can_remove_last : CanRemove u e
    can_remove_last = record { dir = held.0; listed = up_now; empty = no_entries (entries u e) none_in }

    dir_among : Contains (key ∷ (rest ++ e ∷ [])) held.0
    dir_among = elim (Contains-cases key rest held.0 (own_before t proper key keys below rest e gone split_here held.0 held.1)) [
      | inl same ↦ subst (Contains (key ∷ (rest ++ e ∷ []))) same (Contains-here key (rest ++ e ∷ []))
      | inr m ↦ Contains-later key (rest ++ e ∷ []) held.0 (Contains-append_left rest (e ∷ []) held.0 m)
    ]

    pub shrunk_more : IsShrunk t (removed moment e u) key rest (e ∷ gone)
    shrunk_more = record {
      blocks = ap (λ (v : Tree). v.blocks) (left_is u moment e held.0 up_now) ∙ shrunk.blocks;
      format = ap (λ (v : Tree). v.format) (left_is u moment e held.0 up_now) ∙ shrunk.format;
      creation_date = ap (λ (v : Tree). v.creation_date) (left_is u moment e held.0 up_now) ∙ shrunk.creation_date;
      lost = ap (λ (v : Tree). v.lost) (left_is u moment e held.0 up_now) ∙ shrunk.lost;
      outside = λ k out.
          let out_before = λ (m : Contains (key ∷ ((rest ++ e ∷ []) ++ gone)) k). out (subst (λ (ks : List ℕ). Contains (key ∷ ks) k) (append_assoc rest (e ∷ []) gone) m) in
          removed_other u moment e held.0 up_now k
          (λ same. out (Contains-later key (rest ++ e ∷ gone) k (subst (Contains (rest ++ e ∷ gone)) (sym same) (Contains-append_right rest (e ∷ gone) e (Contains-here e gone)))))
          (λ same. out_before (subst (Contains (key ∷ ((rest ++ e ∷ []) ++ gone))) (sym same) (Contains-append_left (key ∷ (rest ++ e ∷ [])) gone held.0 dir_among)))
          ∙ shrunk.outside k out_before;
      gone_nodes = λ k c. elim (Contains-cases e gone k c) [
        | inl same ↦ ap (removed moment e u).nodes (sym same) ∙ removed_here u moment e held.0 up_now
        | inr g ↦ removed_gone k g
      ];
      parents = λ k c.
          let other : k ≢ e = λ same. elim (Contains-cases key rest k c) [
            | inl at ↦ e_other (sym same ∙ sym at)
            | inr m ↦ Once-before rest e gone (subst Once split_here below.once) (subst (Contains rest) same m)
          ] in
          removed_parent u moment e held.0 up_now k other ∙ shrunk.parents k (elim (Contains-cases key rest k c) [
            | inl at ↦ subst (Contains (key ∷ (rest ++ e ∷ []))) at (Contains-here key (rest ++ e ∷ []))
            | inr m ↦ Contains-later key (rest ++ e ∷ []) k (Contains-append_left rest (e ∷ []) k m)
          ]);
    }
      where
        removed_gone : (k : ℕ) → Contains gone k → (removed moment e u).nodes k ≡ None
        removed_gone k g = elim (cases_eq k e) [
          | inl same ↦ ap (removed moment e u).nodes same ∙ removed_here u moment e held.0 up_now
          | inr other ↦ elim (cases_eq k held.0) [
            | inl at ↦ ap (removed moment e u).nodes at ∙ removed_dir u moment e held.0 up_now (λ d. other (at ∙ d)) ∙ ap (option_map (relisted moment (others u moment e held.0 up_now))) (ap u.nodes (sym at) ∙ shrunk.gone_nodes k g)
            | inr away ↦ removed_other u moment e held.0 up_now k other away ∙ shrunk.gone_nodes k g
          ]
        ]

  -- when nothing is left below the entry, it is removed too
  module _ (u : Tree) (proper_now : Proper u) (shrunk : IsShrunk t u key [] keys) (dir : ℕ) (up : parent_of t key ≡ Some dir) where
    up_still : parent_of u key ≡ Some dir
    up_still = shrunk.parents key (Contains-here key []) ∙ up

    pub can_remove_it : CanRemove u key
    can_remove_it = record { dir = dir; listed = up_still; empty = no_entries (entries u key) (λ x c. none_left x ((proper_now.listed key x).0 c)) }
      where
        none_left : (x : ℕ) → parent_of u x ≡ Some key → ⊥
        none_left x p = elim (contains_or_not (key ∷ keys) x) [
          | inl m ↦ elim (Contains-cases key keys x m) [
            | inl same ↦
                let was : parent_of t key ≡ Some key = sym (shrunk.parents key (Contains-here key [])) ∙ ap (parent_of u) same ∙ p in
                let n = parent_in (t.nodes key) key was in
                no_loop t proper key key (proper.rooted key n.0 n.1) was (itself refl)
            | inr g ↦ let none : parent_of u x ≡ None = ap (option_and_then (λ node. node.parent)) (shrunk.gone_nodes x g) in cc (none, p)
          ]
          | inr out ↦
              let was : parent_of t x ≡ Some key = ap (option_and_then (λ node. node.parent)) (sym (shrunk.outside x out)) ∙ p in
              out (among t proper key keys below x (under_parent was (itself refl)))
        ]

    dir_out : ¬ Contains (key ∷ keys) dir
    dir_out m =
        let n = parent_in (t.nodes key) dir up in
        no_loop t proper key dir (proper.rooted key n.0 n.1) up (elim (Contains-cases key keys dir m) [ inl same ↦ itself (sym same) | inr c ↦ below.below dir c ])

    same_entries : entries u dir ≡ entries t dir
    same_entries = ap (λ (o : Option Node). entries_in (option_map (λ node. node.content) o)) (shrunk.outside dir dir_out)

    same_others : others u moment key dir up_still ≡ others t moment key dir up
    unfolding others
    same_others = ap (filter (λ k. not (k == key))) same_entries

    -- the nodes at or below the entry are gone in both trees
    node_under : (k : ℕ) → Contains (key ∷ keys) k → (removed moment key u).nodes k ≡ (pruned moment key t).nodes k
    node_under k m = gone_now (Contains-cases key keys k m) ∙ sym (ap (λ (b : Bool). if b then None else (removed moment key t).nodes k) told)
      where
        gone_now : (key ≡ k) ⊎ Contains keys k → (removed moment key u).nodes k ≡ None
        gone_now (inl same) = ap (removed moment key u).nodes (sym same) ∙ removed_here u moment key dir up_still
        gone_now (inr c) =
            removed_other u moment key dir up_still k (not_top t proper key keys below k c) (λ same. dir_out (subst (Contains (key ∷ keys)) same (Contains-later key keys k c)))
            ∙ shrunk.gone_nodes k c

        there : (key ≡ k) ⊎ Contains keys k → IsSome (t.nodes k) × IsUnder t key k
        there (inl same) = let n = parent_in (t.nodes key) dir up in (ap (λ (i : ℕ). is_some (t.nodes i)) (sym same) ∙ ap is_some n.1, itself (sym same))
        there (inr c) = let h = held_key t proper key keys below k c in let n = parent_in (t.nodes k) h.0 h.1 in (ap is_some n.1, under_parent h.1 h.2)

        told : is_under t key k ≡ true
        told = let w = there (Contains-cases key keys k m) in (under_is_told t proper key k w.0).1 w.1

    -- the other nodes are the same
    node_outside : (k : ℕ) → ¬ Contains (key ∷ keys) k → (removed moment key u).nodes k ≡ (removed moment key t).nodes k
    node_outside k out = elim (cases_eq k dir) [
      | inl at ↦
          let dir_other : dir ≢ key = λ same. dir_out (subst (Contains (key ∷ keys)) (sym same) (Contains-here key keys)) in
          ap (removed moment key u).nodes at ∙ removed_dir u moment key dir up_still dir_other
          ∙ ap₂ (λ (ks : List ℕ) (o : Option Node). option_map (relisted moment ks) o) same_others (shrunk.outside dir dir_out)
          ∙ sym (removed_dir t moment key dir up dir_other) ∙ ap (removed moment key t).nodes (sym at)
      | inr away ↦ removed_other u moment key dir up_still k k_other away ∙ shrunk.outside k out ∙ sym (removed_other t moment key dir up k k_other away)
    ]
      where
        k_other : k ≢ key
        k_other same = out (subst (Contains (key ∷ keys)) (sym same) (Contains-here key keys))

    told_outside : (k : ℕ) → ¬ Contains (key ∷ keys) k → (removed moment key t).nodes k ≡ (pruned moment key t).nodes k
    told_outside k out = go (t.nodes k) refl (is_under t key k) refl
      where
        nothing : t.nodes k ≡ None → (removed moment key t).nodes k ≡ None
        nothing e = removed_other t moment key dir up k
            (λ same. out (subst (Contains (key ∷ keys)) (sym same) (Contains-here key keys)))
            (λ same. let listed = (proper.listed dir key).1 up in let n = directory_node t proper dir key listed in let none : t.nodes dir ≡ None = ap t.nodes (sym same) ∙ e in cc (none, n.2)) ∙ e

        go : (o : Option Node) → t.nodes k ≡ o → (b : Bool) → is_under t key k ≡ b → (removed moment key t).nodes k ≡ (if is_under t key k then None else (removed moment key t).nodes k)
        go o e false told = sym (ap (λ (b : Bool). if b then None else (removed moment key t).nodes k) told)
        go None e true told = nothing e ∙ sym (ap (λ (b : Bool). if b then None else (removed moment key t).nodes k) told)
        go (Some a) e true told = absurd (out (among t proper key keys below k ((under_is_told t proper key k (ap is_some e)).0 told)))

    pruned_node : (k : ℕ) → (removed moment key u).nodes k ≡ (pruned moment key t).nodes k
    pruned_node k = elim (contains_or_not (key ∷ keys) k) [ inl m ↦ node_under k m | inr out ↦ node_outside k out ∙ told_outside k out ]

    pub pruned_is : removed moment key u ≡ pruned moment key t
    pruned_is =
        let now = left_is u moment key dir up_still in
        let before = left_is t moment key dir up in
        let blocks : (removed moment key u).blocks ≡ (pruned moment key t).blocks = ap (λ (v : Tree). v.blocks) now ∙ shrunk.blocks ∙ sym (ap (λ (v : Tree). v.blocks) before) in
        let format : (removed moment key u).format ≡ (pruned moment key t).format = ap (λ (v : Tree). v.format) now ∙ shrunk.format ∙ sym (ap (λ (v : Tree). v.format) before) in
        let creation : (removed moment key u).creation_date ≡ (pruned moment key t).creation_date = ap (λ (v : Tree). v.creation_date) now ∙ shrunk.creation_date ∙ sym (ap (λ (v : Tree). v.creation_date) before) in
        let lost : (removed moment key u).lost ≡ (pruned moment key t).lost = ap (λ (v : Tree). v.lost) now ∙ shrunk.lost ∙ sym (ap (λ (v : Tree). v.lost) before) in
        λ i. record { blocks = blocks i; format = format i; disk_date = moment; creation_date = creation i; nodes = λ k. pruned_node k i; lost = lost i }

-- an image with entries below an entry removed from the last to the first: these keys are left
pub record IsPruning (t : Tree) (key : ℕ) (all image rest : List ℕ) : Type 0 where
  pub now : Tree
  pub gone : List ℕ
  pub stands : Stands image now
  pub split : all ≡ rest ++ gone
  pub shrunk : IsShrunk t now key rest gone

pub pruning_starts : (t : Tree) (key : ℕ) (all image : List ℕ) → Stands image t → IsPruning t key all image all
pruning_starts t key all image s = record { now = t; gone = []; stands = s; split = sym (append-nil all); shrunk = shrunk_at_first t key all }

module _ (t : Tree) (moment : Date3) (key : ℕ) (proper : Proper t) (keys : List ℕ) (below : AreKeysBelow t key keys) (image : List ℕ) where
  module _ (waiting rest : List ℕ) (e : ℕ) (last : waiting ≡ rest ++ e ∷ []) (p : IsPruning t key keys image waiting) where
    shrunk_so_far : IsShrunk t p.now key (rest ++ e ∷ []) p.gone
    shrunk_so_far = subst (λ (ks : List ℕ). IsShrunk t p.now key ks p.gone) last p.shrunk

    split_so_far : keys ≡ (rest ++ e ∷ []) ++ p.gone
    split_so_far = p.split ∙ ap (λ (ks : List ℕ). ks ++ p.gone) last

    pub can_remove_next : (u : Tree) → Stands image u → CanRemove u e
    can_remove_next u s =
        subst (λ (v : Tree). CanRemove v e) (one_tree image p.now u p.stands s)
        (can_remove_last t moment key proper keys below p.now p.stands.proper rest p.gone e split_so_far shrunk_so_far)

    pub pruning_goes_on : (new : List ℕ) → ((u : Tree) → Stands image u → Stands new (removed moment e u)) → IsPruning t key keys new rest
    pruning_goes_on new stands = record {
      now = removed moment e p.now;
      gone = e ∷ p.gone;
      stands = stands p.now p.stands;
      split = split_so_far ∙ append_assoc rest (e ∷ []) p.gone;
      shrunk = shrunk_more t moment key proper keys below p.now p.stands.proper rest p.gone e split_so_far shrunk_so_far;
    }

  module _ (dir : ℕ) (up : parent_of t key ≡ Some dir) (p : IsPruning t key keys image []) where
    shrunk_at_last : IsShrunk t p.now key [] keys
    shrunk_at_last = subst (IsShrunk t p.now key []) (sym p.split) p.shrunk

    pub can_remove_top : (u : Tree) → Stands image u → CanRemove u key
    can_remove_top u s =
        subst (λ (v : Tree). CanRemove v key) (one_tree image p.now u p.stands s)
        (can_remove_it t moment key proper keys below p.now p.stands.proper shrunk_at_last dir up)

    pub pruning_ends : (new : List ℕ) → ((u : Tree) → Stands image u → Stands new (removed moment key u)) → Stands new (pruned moment key t)
    pruning_ends new stands =
        subst (Stands new) (pruned_is t moment key proper keys below p.now p.stands.proper shrunk_at_last dir up) (stands p.now p.stands)

-- ---- the removals one after the other

-- the last of these keys are removed, from the last on, and these are left
pub record AreRemoved (stamp : Date3) (all rest old now : List ℕ) : Type 0 where
  pub gone : List ℕ
  pub split : all ≡ rest ++ gone
  pub goes : GoesThrough (map (removed stamp) (reverse gone)) old now

pub none_removed : (stamp : Date3) (all image : List ℕ) → AreRemoved stamp all all image image
none_removed stamp all image = record { gone = []; split = sym (append-nil all); goes = none }

module _ (stamp : Date3) (key : ℕ) (old now new : List ℕ) (stands : (t : Tree) → Stands now t → Stands new (removed stamp key t)) (keeps : KeepsRest now new) (has : HasTree new) where
  key_removed : (gone : List ℕ) → GoesThrough (map (removed stamp) (reverse gone)) old now → GoesThrough (map (removed stamp) (reverse (key ∷ gone))) old new
  key_removed gone goes =
      let all = ap (map (removed stamp)) (reverse-append (key ∷ []) gone) ∙ map-append (removed stamp) (reverse gone) (key ∷ []) in
      subst (λ (steps : List (Tree → Tree)). GoesThrough steps old new) (sym all) (one_more (map (removed stamp) (reverse gone)) (removed stamp key) goes stands keeps has)

  -- the last of those left
  pub next_removed : (all waiting rest : List ℕ) → waiting ≡ rest ++ key ∷ [] → AreRemoved stamp all waiting old now → AreRemoved stamp all rest old new
  next_removed all waiting rest last r = record {
    gone = key ∷ r.gone;
    split = r.split ∙ ap (λ (ks : List ℕ). ks ++ r.gone) last ∙ append_assoc rest (key ∷ []) r.gone;
    goes = key_removed r.gone r.goes;
  }

  -- the entry above them
  pub top_removed : (below rest : List ℕ) → rest ≡ [] → AreRemoved stamp below rest old now → ((t : Tree) → Stands old t → AreKeysBelow t key below) → RemovesInTurn stamp key old new
  top_removed below rest left r are_below = record {
    below = below;
    are_below = are_below;
    goes = key_removed below (subst (λ (ks : List ℕ). GoesThrough (map (removed stamp) (reverse ks)) old now) (sym (r.split ∙ ap (λ (ks : List ℕ). ks ++ r.gone) left)) r.goes);
  }
