-- Only one list of blocks is along the same links.
use Rattle.ados_faults.proofs.Common.{◌≡◌, ℕ, zero, suc, ◌+◌, ◌-◌, ◌<◌, inl, inr, List, length, slice_index, get_or, sym, ap, ◌∙◌, subst, arith, Contains, cases_order, get_or_default, same_lists, long, InImage, LinkedOnce, last_link}

module _ (image : List ℕ) (link first : ℕ) where
  -- two lists along the same links agree, as far as both go
  agree : (xs ys : List ℕ) → LinkedOnce image link first xs → LinkedOnce image link first ys → (i : ℕ) → i < length xs → i < length ys → slice_index xs i ≡ slice_index ys i
  agree xs ys x y zero l m = x.head ∙ sym y.head
  agree xs ys x y (suc i) l m =
      let e : i + 1 ≡ suc i = omega arith in
      let before = agree xs ys x y i (omega (arith, l)) (omega (arith, m)) in
      ap (slice_index xs) (sym e) ∙ sym (x.linked i (omega (arith, l))) ∙ ap (λ (b : ℕ). long image b link) before ∙ y.linked i (omega (arith, m)) ∙ ap (slice_index ys) e

  -- neither goes on where the other one ends
  not_shorter : (xs ys : List ℕ) → LinkedOnce image link first xs → LinkedOnce image link first ys → length xs < length ys → ⊥
  not_shorter xs ys x y l =
      let n = length xs in
      let some : 0 < length xs = x.not_empty in
      let e : length xs - 1 + 1 ≡ length xs = omega (arith, some) in
      let last = agree xs ys x y (length xs - 1) (omega (arith, some)) (omega (arith, some, l)) in
      let next : last_link image link xs ≡ slice_index ys (length xs) =
      ap (λ (b : ℕ). long image b link) last ∙ y.linked (length xs - 1) (omega (arith, e, l)) ∙ ap (slice_index ys) e in
      let inside : InImage image (slice_index ys (length xs)) = subst (λ (i : ℕ). InImage image (slice_index ys i)) e (y.inside (length xs - 1) (omega (arith, e, l))) in
      let back : Contains xs (last_link image link xs) = x.whole (subst (InImage image) (sym next) inside) in
      y.once back.0 (length xs) 0 back.1 l
      (sym (agree xs ys x y back.0 back.1 (omega (arith, back.1, l))) ∙ get_or_default xs back.0 0 (last_link image link xs) back.1 ∙ back.2 ∙ next)

  pub same_links : (xs ys : List ℕ) → LinkedOnce image link first xs → LinkedOnce image link first ys → xs ≡ ys
  same_links xs ys x y = elim (cases_order (length xs) (length ys)) [
    | inl e ↦ same_lists xs ys e (λ k d l. sym (at xs k d l) ∙ agree xs ys x y k l (omega (arith, l, e)) ∙ at ys k d (omega (arith, l, e)))
    | inr (inl l) ↦ absurd (not_shorter xs ys x y l)
    | inr (inr l) ↦ absurd (not_shorter ys xs y x l)
  ]
    where
      at : (zs : List ℕ) (k d : ℕ) → k < length zs → slice_index zs k ≡ get_or zs k d
      at zs k d l = get_or_default zs k 0 d l
