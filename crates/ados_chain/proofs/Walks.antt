-- Walks along a chain: the facts at the start, between two steps, after a step and at the end.
use Rattle.ados_chain.proofs.Common.{◌≡◌, ◌≢◌, ℕ, ◌+◌, ◌<◌, ◌⊎◌, inl, inr, List, [], ◌∷◌, ◌++◌, length, Contains, refl, sym, ap, ◌∙◌, subst, arith, append_assoc, append-nil, ap₂, cases_eq, length-append, Contains-append_left, Contains-append_right, Contains-nil, Contains-push_cases, Contains-split, table_entry, block_count, long, Chained, FIRST_SLOT, NEXT_IN_CHAIN, Same, LawfulChains, name_at, NoneNamed, IsFirstNamed, link_block, link_long, LeadsTo, BeginsWith, Contains-here}
use Rattle.ados_chain.specs.Links.{IsNear}
use Rattle.ados_chain.proofs.Spelling.{Chained-behind, steps, steps-length, NoneZero, link_block-push, link_long-push}
use Rattle.ados_chain.proofs.Chaining.{none_zero, chain-short}

-- the chain is a prefix and a rest; the rest starts with the key
pub record StandsAt (image : List ℕ) (keys : List ℕ) (key : ℕ) (front rest : List ℕ) : Type 0 where
  pub split : keys ≡ front ++ rest
  pub spelled : Chained image NEXT_IN_CHAIN key rest

-- a walk to the link of an entry that is not in the prefix
pub record LinksOn (image : List ℕ) (dir s : ℕ) (keys : List ℕ) (entry block i key : ℕ) : Type 0 where
  pub front : List ℕ
  pub rest : List ℕ
  pub stands : StandsAt image keys key front rest
  pub absent : ¬ Contains front entry
  pub at_block : block ≡ link_block dir front
  pub at_long : i ≡ link_long (FIRST_SLOT + s) front

-- a walk to the first entry with a name that is not in the prefix
pub record SearchedOn (image name keys : List ℕ) (key : ℕ) : Type 0 where
  pub front : List ℕ
  pub rest : List ℕ
  pub stands : StandsAt image keys key front rest
  pub earlier : NoneNamed image name front

-- a key other than 0 is the first of the rest
pub begun : (image : List ℕ) (key : ℕ) (rest : List ℕ) → Chained image NEXT_IN_CHAIN key rest → key ≢ 0 → (later : List ℕ) × (rest ≡ key ∷ later) × Chained image NEXT_IN_CHAIN (long image key NEXT_IN_CHAIN) later
begun image key [] c n = absurd (n c)
begun image key (k ∷ later) c n = (later, ap (λ (z : ℕ). z ∷ later) (sym c.0), subst (λ (z : ℕ). Chained image NEXT_IN_CHAIN (long image z NEXT_IN_CHAIN) later) (sym c.0) c.1)

-- the key 0 ends the chain
pub ended : (image : List ℕ) (rest : List ℕ) → NoneZero rest → Chained image NEXT_IN_CHAIN 0 rest → rest ≡ []
ended image [] n c = refl
ended image (k ∷ later) n c = absurd (n k (Contains-here k later) (sym c.0))

-- one step: the key joins the prefix
pub stands_more : (image keys : List ℕ) (key : ℕ) (front rest : List ℕ) → StandsAt image keys key front rest → key ≢ 0 → (later : List ℕ) × (rest ≡ key ∷ later) × StandsAt image keys (long image key NEXT_IN_CHAIN) (front ++ key ∷ []) later
stands_more image keys key front rest h n =
    let b = begun image key rest h.spelled n in
    (b.0, b.1, record { split = h.split ∙ ap (λ (xs : List ℕ). front ++ xs) b.1 ∙ sym (append_assoc front (key ∷ []) b.0); spelled = b.2 })

module _ (image : List ℕ) (dir : ℕ) (chains : ℕ → List ℕ) (h : LawfulChains image dir chains) (s : ℕ) (small : s < 72) where
  rest_in : (key : ℕ) (front rest : List ℕ) → StandsAt image (chains s) key front rest → (k : ℕ) → Contains rest k → Contains (chains s) k
  rest_in key front rest st k m = subst (λ (xs : List ℕ). Contains xs k) (sym st.split) (Contains-append_right front rest k m)

  -- the key of a walk is in the chain
  pub key_in : (key : ℕ) (front rest : List ℕ) → StandsAt image (chains s) key front rest → key ≢ 0 → Contains (chains s) key
  key_in key front rest st n =
      let b = begun image key rest st.spelled n in
      rest_in key front rest st key (subst (λ (xs : List ℕ). Contains xs key) (sym b.1) (Contains-here key b.0))

  rest_none_zero : (key : ℕ) (front rest : List ℕ) → StandsAt image (chains s) key front rest → NoneZero rest
  rest_none_zero key front rest st k m = none_zero image dir chains h s small k (rest_in key front rest st k m)

  -- at the key 0 the rest is empty
  pub all_behind : (front rest : List ℕ) → StandsAt image (chains s) 0 front rest → rest ≡ []
  all_behind front rest st = ended image rest (rest_none_zero 0 front rest st) st.spelled

  counted : (key : ℕ) (front rest : List ℕ) → StandsAt image (chains s) key front rest → steps image (block_count image) key ≡ length rest
  counted key front rest st =
      steps-length image (block_count image) key rest (rest_none_zero key front rest st)
      (omega (arith, chain-short image dir chains h s small, ap length st.split, length-append front rest)) st.spelled

  -- the rest gets shorter with each step
  pub steps_fall : (key : ℕ) (front rest : List ℕ) → StandsAt image (chains s) key front rest → key ≢ 0 → steps image (block_count image) (long image key NEXT_IN_CHAIN) < steps image (block_count image) key
  steps_fall key front rest st n =
      let m = stands_more image (chains s) key front rest st n in
      omega (arith, counted key front rest st, counted (long image key NEXT_IN_CHAIN) (front ++ key ∷ []) m.0 m.2, ap length m.1)

  pub links_more : (entry block i key : ℕ) → LinksOn image dir s (chains s) entry block i key → key ≢ 0 → key ≢ entry → (block' i' key' : ℕ) → block' ≡ key → i' ≡ NEXT_IN_CHAIN → key' ≡ long image key NEXT_IN_CHAIN → LinksOn image dir s (chains s) entry block' i' key'
  links_more entry block i key w n other block' i' key' at_block at_long at_key =
      let m = stands_more image (chains s) key w.front w.rest w.stands n in
      record {
        front = w.front ++ key ∷ [];
        rest = m.0;
        stands = subst (λ (k : ℕ). StandsAt image (chains s) k (w.front ++ key ∷ []) m.0) (sym at_key) m.2;
        absent = λ a. elim (Contains-push_cases w.front key entry a) [ inl b ↦ w.absent b | inr e ↦ other e ];
        at_block = at_block ∙ sym (link_block-push dir w.front key);
        at_long = at_long ∙ sym (link_long-push (FIRST_SLOT + s) w.front key);
      }

  -- a walk that stops at the entry or at the end has found the link
  pub links_all : (entry block i key : ℕ) → LinksOn image dir s (chains s) entry block i key → (key ≡ 0) ⊎ (key ≡ entry) → LeadsTo dir s (chains s) entry block i
  links_all entry block i key w stop = record {
    front = w.front;
    rest = w.rest;
    split = w.stands.split;
    absent = w.absent;
    begins = begins w.rest w.stands stop;
    at_block = w.at_block;
    at_long = w.at_long;
  }
    where
      begins : (rest : List ℕ) → StandsAt image (chains s) key w.front rest → (key ≡ 0) ⊎ (key ≡ entry) → BeginsWith entry rest
      begins [] st stop = tt
      begins (k ∷ ks) st (inr e) = sym st.spelled.0 ∙ e
      begins (k ∷ ks) st (inl e) = absurd (rest_none_zero key w.front (k ∷ ks) st k (Contains-here k ks) (sym st.spelled.0 ∙ e))

  -- a walk to the end that begins at the directory, or behind an entry of the chain
  pub links_begin : (near block i key : ℕ) → IsNear dir (chains s) near → (near ≡ dir → (block ≡ dir) × (i ≡ FIRST_SLOT + s)) → (near ≢ dir → (block ≡ near) × (i ≡ NEXT_IN_CHAIN)) → key ≡ long image block i → LinksOn image dir s (chains s) 0 block i key
  links_begin near block i key is start later e = elim (cases_eq near dir) [
    | inl here ↦
        let at = start here in
        record {
          front = [];
          rest = chains s;
          stands = record { split = refl; spelled = subst (λ (k : ℕ). Chained image NEXT_IN_CHAIN k (chains s)) (sym (e ∙ ap₂ (long image) at.0 at.1)) (h.spelled s small) };
          absent = λ m. Contains-nil 0 m;
          at_block = at.0;
          at_long = at.1;
        }
    | inr other ↦
        let at = later other in
        let split = Contains-split (chains s) near (elim is [ inl here ↦ absurd (other here) | inr m ↦ m ]) in
        let whole : chains s ≡ (split.0 ++ near ∷ []) ++ split.1 = split.2 ∙ sym (append_assoc split.0 (near ∷ []) split.1) in
        let spelled = Chained-behind image dir (FIRST_SLOT + s) split.0 (near ∷ split.1) (subst (λ (xs : List ℕ). Chained image NEXT_IN_CHAIN (table_entry image dir s) xs) split.2 (h.spelled s small)) in
        record {
          front = split.0 ++ near ∷ [];
          rest = split.1;
          stands = record { split = whole; spelled = subst (λ (k : ℕ). Chained image NEXT_IN_CHAIN k split.1) (sym (e ∙ ap₂ (long image) at.0 at.1)) spelled.1 };
          absent = λ m. none_zero image dir chains h s small 0 (subst (λ (xs : List ℕ). Contains xs 0) (sym whole) (Contains-append_left (split.0 ++ near ∷ []) split.1 0 m)) refl;
          at_block = at.0 ∙ sym (link_block-push dir split.0 near);
          at_long = at.1 ∙ sym (link_long-push (FIRST_SLOT + s) split.0 near);
        }
  ]

  pub searched_more : (name : List ℕ) (key : ℕ) → SearchedOn image name (chains s) key → key ≢ 0 → ¬ Same (name_at image key) name → (key' : ℕ) → key' ≡ long image key NEXT_IN_CHAIN → SearchedOn image name (chains s) key'
  searched_more name key w n other key' at_key =
      let m = stands_more image (chains s) key w.front w.rest w.stands n in
      record {
        front = w.front ++ key ∷ [];
        rest = m.0;
        stands = subst (λ (k : ℕ). StandsAt image (chains s) k (w.front ++ key ∷ []) m.0) (sym at_key) m.2;
        earlier = λ k a. elim (Contains-push_cases w.front key k a) [ inl b ↦ w.earlier k b | inr e ↦ subst (λ (z : ℕ). ¬ Same (name_at image z) name) e other ];
      }

  pub searched_all : (name : List ℕ) → SearchedOn image name (chains s) 0 → NoneNamed image name (chains s)
  searched_all name w = subst (NoneNamed image name) (sym (w.stands.split ∙ ap (λ (xs : List ℕ). w.front ++ xs) (all_behind w.front w.rest w.stands) ∙ append-nil w.front)) w.earlier

  pub found_here : (name : List ℕ) (key : ℕ) → SearchedOn image name (chains s) key → key ≢ 0 → Same (name_at image key) name → IsFirstNamed image name (chains s) key
  found_here name key w n same =
      let b = begun image key w.rest w.stands.spelled n in
      record { front = w.front; back = b.0; split = w.stands.split ∙ ap (λ (xs : List ℕ). w.front ++ xs) b.1; earlier = w.earlier; same = same }
