-- Positions in a list that grows or is cut, and in the same list after a header.
use Rattle.ados_data.proofs.Common.{◌≡◌, ◌≢◌, ℕ, zero, suc, ◌<◌, ◌≤◌, inl, inr, List, [], ◌∷◌, ◌++◌, length, take, slice_index, refl, sym, ap, ◌∙◌, subst, arith, cases_lt, get_or_append_left, get_or_push, get_or-take, get_or_past, length_push, length-take-le, IsInside, AreApart}

pub pushed_past : (xs : List ℕ) (y i : ℕ) → length xs < i → slice_index (xs ++ y ∷ []) i ≡ 0
pushed_past xs y i l = get_or_past (xs ++ y ∷ []) i 0 (omega (arith, length_push xs y))

pub head_pushed_before : (file : ℕ) (xs : List ℕ) (y q : ℕ) → q ≤ length xs → slice_index (file ∷ (xs ++ y ∷ [])) q ≡ slice_index (file ∷ xs) q
head_pushed_before file xs y zero l = refl
head_pushed_before file xs y (suc q) l = get_or_append_left xs (y ∷ []) 0 q (omega arith)

pub head_pushed_last : (file : ℕ) (xs : List ℕ) (y q : ℕ) → q ≡ suc (length xs) → slice_index (file ∷ (xs ++ y ∷ [])) q ≡ y
head_pushed_last file xs y q e = ap (slice_index (file ∷ (xs ++ y ∷ []))) e ∙ get_or_push xs y 0 (length xs) refl

pub taken_past : (xs : List ℕ) (n i : ℕ) → n ≤ length xs → n ≤ i → slice_index (take n xs) i ≡ 0
taken_past xs n i l m = get_or_past (take n xs) i 0 (omega (arith, length-take-le n xs l))

pub head_taken : (file : ℕ) (xs : List ℕ) (n q : ℕ) → q ≤ n → slice_index (file ∷ take n xs) q ≡ slice_index (file ∷ xs) q
head_taken file xs n zero l = refl
head_taken file xs n (suc q) l = get_or-take n xs q 0 (omega arith)

-- ---- blocks without duplicates

module _ (n file : ℕ) (blocks extensions : List ℕ) (a : AreApart n file blocks extensions) where
  -- one more extension block
  pub apart_extended : (e : ℕ) → IsInside n e → ((q : ℕ) → q ≤ length extensions → slice_index (file ∷ extensions) q ≢ e) → ((i : ℕ) → i < length blocks → slice_index blocks i ≢ e) → AreApart n file blocks (extensions ++ e ∷ [])
  apart_extended e inside headers data_blocks = record {
    headers_inside = λ q l. elim (cases_lt q (suc (length extensions))) [
      | inl m ↦ subst (IsInside n) (sym (head_pushed_before file extensions e q (omega arith))) (a.headers_inside q (omega arith))
      | inr m ↦ subst (IsInside n) (sym (head_pushed_last file extensions e q (omega (arith, length_push extensions e)))) inside
    ];
    data_inside = a.data_inside;
    headers_once = λ p q l m. elim (cases_lt q (suc (length extensions))) [
      | inl r ↦ λ z. a.headers_once p q l (omega arith) (sym (head_pushed_before file extensions e p (omega arith)) ∙ z ∙ head_pushed_before file extensions e q (omega arith))
      | inr r ↦ λ z. headers p (omega (arith, l, m, length_push extensions e)) (sym (head_pushed_before file extensions e p (omega (arith, l, m, length_push extensions e))) ∙ z ∙ head_pushed_last file extensions e q (omega (arith, length_push extensions e)))
    ];
    data_once = a.data_once;
    apart = λ q i l m. elim (cases_lt q (suc (length extensions))) [
      | inl r ↦ λ z. a.apart q i (omega arith) m (sym (head_pushed_before file extensions e q (omega arith)) ∙ z)
      | inr r ↦ λ z. data_blocks i m (sym z ∙ head_pushed_last file extensions e q (omega (arith, length_push extensions e)))
    ];
  }

  -- one more data block
  pub apart_longer : (b : ℕ) → IsInside n b → ((q : ℕ) → q ≤ length extensions → slice_index (file ∷ extensions) q ≢ b) → ((i : ℕ) → i < length blocks → slice_index blocks i ≢ b) → AreApart n file (blocks ++ b ∷ []) extensions
  apart_longer b inside headers data_blocks = record {
    headers_inside = a.headers_inside;
    data_inside = λ i l. elim (cases_lt i (length blocks)) [
      | inl m ↦ subst (IsInside n) (sym (get_or_append_left blocks (b ∷ []) 0 i m)) (a.data_inside i m)
      | inr m ↦ subst (IsInside n) (sym (get_or_push blocks b 0 i (omega (arith, length_push blocks b)))) inside
    ];
    headers_once = a.headers_once;
    data_once = λ i j l m. elim (cases_lt j (length blocks)) [
      | inl r ↦ λ z. a.data_once i j l r (sym (get_or_append_left blocks (b ∷ []) 0 i (omega arith)) ∙ z ∙ get_or_append_left blocks (b ∷ []) 0 j r)
      | inr r ↦ λ z. data_blocks i (omega (arith, l, m, length_push blocks b)) (sym (get_or_append_left blocks (b ∷ []) 0 i (omega (arith, l, m, length_push blocks b))) ∙ z ∙ get_or_push blocks b 0 j (omega (arith, length_push blocks b)))
    ];
    apart = λ q i l m. elim (cases_lt i (length blocks)) [
      | inl r ↦ λ z. a.apart q i l r (z ∙ get_or_append_left blocks (b ∷ []) 0 i r)
      | inr r ↦ λ z. headers q l (z ∙ get_or_push blocks b 0 i (omega (arith, length_push blocks b)))
    ];
  }

  -- fewer blocks
  pub apart_taken : (d x : ℕ) → d ≤ length blocks → x ≤ length extensions → AreApart n file (take d blocks) (take x extensions)
  apart_taken d x l m =
      let dl : length (take d blocks) ≡ d = length-take-le d blocks l in
      let xl : length (take x extensions) ≡ x = length-take-le x extensions m in
      record {
        headers_inside = λ q r. subst (IsInside n) (sym (head_taken file extensions x q (omega arith))) (a.headers_inside q (omega arith));
        data_inside = λ i r. subst (IsInside n) (sym (get_or-take d blocks i 0 (omega arith))) (a.data_inside i (omega arith));
        headers_once = λ p q r t z. a.headers_once p q r (omega arith) (sym (head_taken file extensions x p (omega arith)) ∙ z ∙ head_taken file extensions x q (omega arith));
        data_once = λ i j r t z. a.data_once i j r (omega arith) (sym (get_or-take d blocks i 0 (omega arith)) ∙ z ∙ get_or-take d blocks j 0 (omega arith));
        apart = λ q i r t z. a.apart q i (omega arith) (omega arith) (sym (head_taken file extensions x q (omega arith)) ∙ z ∙ get_or-take d blocks i 0 (omega arith));
      }
