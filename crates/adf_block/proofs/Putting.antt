-- A block with a part of it overwritten.
use Rattle.adf_block.proofs.Common.{◌≡◌, ℕ, ◌+◌, ◌-◌, ◌<◌, ◌≤◌, ◌++◌, ◌⊎◌, inl, inr, List, length, take, drop, slice_index, zero-add, refl, sym, ap, ◌∙◌, arith, cases_lt, cases_eq, get_or_append_left, get_or-append_right, get_or-take, get_or-drop, length-take, length-drop, length-append, put_mid, byte_at, bytes_at, block_count, SameBut, Within, with_block}
use Rattle.adf_block.proofs.Blocks.{byte-bytes_at, byte_at-with_block, only-with_block}

module _ (xs ys : List ℕ) (a n : ℕ) (room : a + length ys ≤ length xs) (n_is : n ≡ length ys) where
  front : length (take a xs) ≡ a
  front = omega (arith, length-take a xs)

  pub mid_at : (k : ℕ) → k < length ys → slice_index (put_mid a n xs ys) (a + k) ≡ slice_index ys k
  mid_at k l =
      let place : a + k - a ≡ k = omega arith in
      get_or-append_right (take a xs) (ys ++ drop n (drop a xs)) a (a + k) 0 front (omega arith)
      ∙ ap (slice_index (ys ++ drop n (drop a xs))) place
      ∙ get_or_append_left ys (drop n (drop a xs)) 0 k l

  pub mid_before : (k : ℕ) → k < a → slice_index (put_mid a n xs ys) k ≡ slice_index xs k
  mid_before k l = get_or_append_left (take a xs) (ys ++ drop n (drop a xs)) 0 k (omega (arith, front)) ∙ get_or-take a xs k 0 l

  pub mid_behind : (k : ℕ) → a + length ys ≤ k → slice_index (put_mid a n xs ys) k ≡ slice_index xs k
  mid_behind k l =
      let place : a + (n + (k - a - length ys)) ≡ k = omega (arith, n_is, l) in
      get_or-append_right (take a xs) (ys ++ drop n (drop a xs)) a k 0 front (omega arith)
      ∙ get_or-append_right ys (drop n (drop a xs)) (length ys) (k - a) 0 refl (omega arith)
      ∙ get_or-drop n (drop a xs) (k - a - length ys) 0
      ∙ get_or-drop a xs (n + (k - a - length ys)) 0
      ∙ ap (slice_index xs) place

  pub length-mid : length (put_mid a n xs ys) ≡ length xs
  length-mid =
      omega (arith, front, n_is, length-append (take a xs) (ys ++ drop n (drop a xs)), length-append ys (drop n (drop a xs)), length-drop n (drop a xs), length-drop a xs)

-- the bytes of block b, some of them overwritten
module _ (image : List ℕ) (b a n : ℕ) (xs ys : List ℕ) (inside : b < block_count image) (is : xs ≡ bytes_at image b 0 512) (whole : length xs ≡ 512) (room : a + length ys ≤ 512) (n_is : n ≡ length ys) where
  fits : a + length ys ≤ length xs
  fits = omega (arith, whole, room)

  full : length (put_mid a n xs ys) ≡ 512
  full = length-mid xs ys a n fits n_is ∙ whole

  pub written_byte : (k : ℕ) → k < length ys → byte_at (with_block image b (put_mid a n xs ys)) b (a + k) ≡ slice_index ys k
  written_byte k l = byte_at-with_block image b (put_mid a n xs ys) inside full (a + k) (omega (arith, l, room)) ∙ mid_at xs ys a n fits n_is k l

  kept_byte : (k : ℕ) → k < 512 → (k < a) ⊎ (a + length ys ≤ k) → byte_at (with_block image b (put_mid a n xs ys)) b k ≡ byte_at image b k
  kept_byte k l side =
      let was : slice_index xs k ≡ byte_at image b k = ap (λ (zs : List ℕ). slice_index zs k) is ∙ byte-bytes_at image b 0 512 k l ∙ ap (byte_at image b) (zero-add k) in
      byte_at-with_block image b (put_mid a n xs ys) inside full k l
      ∙ elim side [ inl m ↦ mid_before xs ys a n fits n_is k m | inr m ↦ mid_behind xs ys a n fits n_is k m ]
      ∙ was

  pub only_written : SameBut (Within b a (a + length ys)) image (with_block image b (put_mid a n xs ys))
  only_written = record {
    same_length = (only-with_block image b (put_mid a n xs ys) inside full).same_length;
    same_byte = λ c k l un. elim (cases_eq c b) [
      | inr other ↦ (only-with_block image b (put_mid a n xs ys) inside full).same_byte c k l other
      | inl same ↦
          ap (λ (m : ℕ). byte_at (with_block image b (put_mid a n xs ys)) m k) same
          ∙ kept_byte k l (side c k same un)
          ∙ ap (λ (m : ℕ). byte_at image m k) (sym same)
    ];
  }
    where
      side : (c k : ℕ) → c ≡ b → ¬ Within b a (a + length ys) c k → (k < a) ⊎ (a + length ys ≤ k)
      side c k e un = elim (cases_lt k a) [
        | inl l ↦ inl l
        | inr l ↦ elim (cases_lt k (a + length ys)) [ inl m ↦ absurd (un (e, l, m)) | inr m ↦ inr m ]
      ]
