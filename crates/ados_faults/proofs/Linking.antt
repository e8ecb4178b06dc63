-- The blocks along links, one more at a time.
use Rattle.ados_faults.proofs.Common.{◌≡◌, ◌≢◌, ℕ, ◌+◌, ◌-◌, ◌<◌, ◌≤◌, inl, inr, List, [], ◌∷◌, ◌++◌, length, get_or, slice_index, refl, sym, ap, ◌∙◌, subst, arith, Contains, cases_lt, get_or_default, length_push, get_or_push, get_or_append_left, All-push, all_pairs_push, block_count, long, InImage, LinkedOnce, LeadOn, FurtherAreInside, last_link, IsChain, length-once}

-- only the first block
pub chain_start : (image : List ℕ) (link first : ℕ) → InImage image first → IsChain image link (first ∷ [])
chain_start image link first within = record {
  not_empty = omega arith;
  linked = λ i l. absurd (omega (arith, l));
  further = λ i l. absurd (omega (arith, l));
  once = λ i j d l m. absurd (omega (arith, l, m));
  inside = All-push (InImage image) [] first (λ k d l. absurd (omega (arith, l))) within;
}

module _ (image : List ℕ) (link : ℕ) (blocks : List ℕ) (c : IsChain image link blocks) where
  -- each is another block of the image
  pub chain_few : length blocks ≤ block_count image
  chain_few = length-once blocks (block_count image) c.once (λ x h. (subst (InImage image) h.2 (c.inside h.0 x h.1)).1)

  -- the links lead outside, or back
  pub chain_whole : (next : ℕ) → last_link image link blocks ≡ next → (InImage image next → Contains blocks next) → LinkedOnce image link (slice_index blocks 0) blocks
  chain_whole next e back = record {
    not_empty = c.not_empty;
    head = refl;
    linked = c.linked;
    inside = c.further;
    once = c.once;
    whole = λ inside. subst (Contains blocks) (sym e) (back (subst (InImage image) e inside));
  }

  -- a block not visited before
  pub chain_more : (next : ℕ) → last_link image link blocks ≡ next → InImage image next → ¬ Contains blocks next → IsChain image link (blocks ++ next ∷ [])
  chain_more next e inside fresh = record {
    not_empty = omega (arith, grown);
    linked = linked;
    further = further;
    once = all_pairs_push (λ (a b : ℕ). a ≢ b) blocks next c.once (λ k d l z. fresh (k, l, get_or_default blocks k next d l ∙ z));
    inside = All-push (InImage image) blocks next c.inside inside;
  }
    where
      grown : length (blocks ++ next ∷ []) ≡ length blocks + 1
      grown = length_push blocks next

      before : (i : ℕ) → i < length blocks → slice_index (blocks ++ next ∷ []) i ≡ slice_index blocks i
      before i l = get_or_append_left blocks (next ∷ []) 0 i l

      last : (i : ℕ) → length blocks ≡ i → slice_index (blocks ++ next ∷ []) i ≡ next
      last i here = get_or_push blocks next 0 i here

      linked : LeadOn image link (blocks ++ next ∷ [])
      linked i l = elim (cases_lt (i + 1) (length blocks)) [
        | inl m ↦ ap (λ (b : ℕ). long image b link) (before i (omega (arith, m))) ∙ c.linked i m ∙ sym (before (i + 1) m)
        | inr m ↦
            (let here : length blocks ≡ i + 1 = omega (arith, l, m, grown) in
            let at : i ≡ length blocks - 1 = omega (arith, here) in
            ap (λ (b : ℕ). long image b link) (before i (omega (arith, here)) ∙ ap (slice_index blocks) at) ∙ e ∙ sym (last (i + 1) here))
      ]

      further : FurtherAreInside image (blocks ++ next ∷ [])
      further i l = elim (cases_lt (i + 1) (length blocks)) [
        | inl m ↦ subst (InImage image) (sym (before (i + 1) m)) (c.further i m)
        | inr m ↦ subst (InImage image) (sym (last (i + 1) (omega (arith, l, m, grown)))) inside
      ]

pub head_kept : (blocks : List ℕ) (next : ℕ) → 0 < length blocks → slice_index (blocks ++ next ∷ []) 0 ≡ slice_index blocks 0
head_kept blocks next l = get_or_append_left blocks (next ∷ []) 0 0 l

-- the link of the last block, as it is read
pub last_next : (image : List ℕ) (link : ℕ) (blocks : List ℕ) (n last next : ℕ) → 0 < length blocks → n ≡ length blocks → last ≡ get_or blocks (n - 1) last → next ≡ long image last link → last_link image link blocks ≡ next
last_next image link blocks n last next some all at is =
    let place : n - 1 ≡ length blocks - 1 = omega (arith, all) in
    sym (is ∙ ap (λ (b : ℕ). long image b link) (at ∙ get_or_default blocks (n - 1) last 0 (omega (arith, some, place)) ∙ ap (slice_index blocks) place))
