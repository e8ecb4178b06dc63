-- A walk along a hash chain whose entries are put into the cache.
use Rattle.ados_volume.proofs.Common.{AreChildren, BTreeMap, Contains, Contains-nil, Directory, HasPair, IsSome, IsWhole, Keeps, LawfulChains, List, Some, Sought, Stands, Tree, [], ap, append-nil, block_count, cases_eq, child_of, content_at, entries, in_slot, inl, inr, is_some, long, map, name_of, refl, slot, subst, sym, upper, ℕ, ◌+◌, ◌++◌, ◌<◌, ◌==◌, ◌∙◌, ◌∷◌, ◌≡◌, ◌≢◌, eq-eqb}
use Rattle.adf_block.specs.declared.layout.TheConstants.{FIRST_SLOT, NEXT_IN_CHAIN, TABLE_LONGS}
use Rattle.adf_block.specs.Fields.{table_entry}
use Rattle.std.proofs.lemmas.List.Elements.{Contains-push_cases}
use Rattle.ados_chain.proofs.Spelling.{steps}
use Rattle.ados_chain.proofs.Walks.{StandsAt, all_behind, key_in, stands_more, steps_fall}
use Rattle.ados_change.proofs.Entering.{Contains-part, Contains-passes}
use Rattle.ados_model.proofs.Nodes.{entry_node}
use Rattle.ados_volume.proofs.Cached.{kept}
use Rattle.ados_volume.proofs.Looking.{chains_of, is_child}

-- the walk stands at a key, and the cache has the pairs of the entries that it passed
pub record HoldsOn (image : List ℕ) (t : Tree) (pairs : BTreeMap Sought ℕ) (dir s key : ℕ) : Type 0 where
  pub front : List ℕ
  pub rest : List ℕ
  pub stands : StandsAt image (in_slot t dir s) key front rest
  pub held : (k : ℕ) → Contains front k → HasPair pairs dir (name_of t k) k

module _ (image : List ℕ) (t : Tree) (stands : Stands image t) (dir s : ℕ) (small : s < TABLE_LONGS) (directory : (keys : List ℕ) × (content_at t dir ≡ Some (Directory keys))) where
  chains : LawfulChains image dir (in_slot t dir)
  chains = chains_of image t stands dir directory

  pub dir_inside : dir < block_count image
  dir_inside = chains.inside.1

  pub holds_none : (pairs : BTreeMap Sought ℕ) (key : ℕ) → key ≡ long image dir (FIRST_SLOT + s) → HoldsOn image t pairs dir s key
  holds_none pairs key e = record {
    front = [];
    rest = in_slot t dir s;
    stands = record { split = refl; spelled = rw e (chains.spelled s small) };
    held = λ k c. absurd (Contains-nil k c);
  }

  module _ (pairs : BTreeMap Sought ℕ) (key : ℕ) (on : HoldsOn image t pairs dir s key) (there : key ≢ 0) where
    -- the key is an entry
    pub here : Contains (entries t dir) key
    here = Contains-part (λ k. slot (name_of t k) == s) (entries t dir) key (key_in image dir (in_slot t dir) chains s small key on.front on.rest on.stands there)

    pub here_key : IsSome (t.nodes key)
    here_key = ap is_some (entry_node t stands.proper dir key here).1

    pub here_inside : key < block_count image
    here_inside = (chains.entry s key small (key_in image dir (in_slot t dir) chains s small key on.front on.rest on.stands there)).inside.1

    pub here_child : (name : List ℕ) → name ≡ name_of t key → child_of t dir name ≡ Some key
    here_child name e = is_child image t stands dir key name here (ap (map upper) (sym e))

    pub fewer_steps : (next : ℕ) → next ≡ long image key NEXT_IN_CHAIN → steps image (block_count image) next < steps image (block_count image) key
    fewer_steps next e = subst (λ (n : ℕ). steps image (block_count image) n < steps image (block_count image) key) (sym e) (steps_fall image dir (in_slot t dir) chains s small key on.front on.rest on.stands there)

    -- its pair is put
    pub holds_more : (new : BTreeMap Sought ℕ) (name : List ℕ) → name ≡ name_of t key → AreChildren image pairs → Keeps pairs dir name key new → HasPair new dir name key
        → (next : ℕ) → next ≡ long image key NEXT_IN_CHAIN → HoldsOn image t new dir s next
    holds_more new name own children keeps put next e =
        let m = stands_more image (in_slot t dir s) key on.front on.rest on.stands there in
        record {
          front = on.front ++ key ∷ [];
          rest = m.0;
          stands = subst (λ (k : ℕ). StandsAt image (in_slot t dir s) k (on.front ++ key ∷ []) m.0) (sym e) m.2;
          held = λ k c. elim (Contains-push_cases on.front key k c) [
            | inl was ↦ kept image t stands pairs new dir name key children keeps (here_child name own) dir (name_of t k) k (on.held k was)
            | inr is ↦ subst (λ (j : ℕ). HasPair new dir (name_of t j) j) is (subst (λ (n : List ℕ). HasPair new dir n key) own put)
          ];
        }

  -- at the end of the chain all its entries have their pairs
  pub holds_all : (pairs : BTreeMap Sought ℕ) (key : ℕ) → key ≡ 0 → HoldsOn image t pairs dir s key → (k : ℕ) → Contains (entries t dir) k → slot (name_of t k) ≡ s → HasPair pairs dir (name_of t k) k
  holds_all pairs key end on k c own =
      let at_end : StandsAt image (in_slot t dir s) 0 on.front on.rest = subst (λ (j : ℕ). StandsAt image (in_slot t dir s) j on.front on.rest) end on.stands in
      let whole : in_slot t dir s ≡ on.front = on.stands.split ∙ ap (λ (xs : List ℕ). on.front ++ xs) (all_behind image dir (in_slot t dir) chains s small on.front on.rest at_end) ∙ append-nil on.front in
      on.held k (subst (λ (xs : List ℕ). Contains xs k) whole (Contains-passes (λ j. slot (name_of t j) == s) (entries t dir) k c (eq-eqb (slot (name_of t k)) s own)))
