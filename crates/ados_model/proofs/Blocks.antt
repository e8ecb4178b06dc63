-- An image composed of blocks, and a block composed of longs.
use Rattle.ados_model.proofs.Common.{◌≡◌, ℕ, zero, suc, ◌+◌, ◌-◌, ◌*◌, ◌/◌, ◌%◌, ◌^◌, ◌<◌, ◌≤◌, ◌⊎◌, inl, inr, List, [], ◌∷◌, length, take, drop, flat_map, slice_index, refl, sym, ap, ap₂, ◌∙◌, arith, AllByRecursion, cases_lt, get_or_append_left, get_or-append_right, get_or-take, get_or-drop, length-take, length-drop, length-append, ext_get_or, byte_at, bytes_at, long}
use Rattle.ados_model.proofs.Lists.{joined}

-- the number in the first four bytes, big-endian
abbrev pub number : List ℕ → ℕ
number bytes = slice_index bytes 0 * 256 ^ 3 + (slice_index bytes 1 * 256 ^ 2 + (slice_index bytes 2 * 256 ^ 1 + (slice_index bytes 3 * 256 ^ 0 + 0)))

module _ (g : ℕ → List ℕ) (full : (b : ℕ) → length (g b) ≡ 512) where
  pub length-joined : (n : ℕ) → length (joined g n) ≡ 512 * n
  unfolding joined
  length-joined zero = refl
  length-joined (suc n) = length-append (joined g n) (g n) ∙ omega (arith, length-joined n, full n)

  joined-at : (n b k : ℕ) → b < n → k < 512 → slice_index (joined g n) (512 * b + k) ≡ slice_index (g b) k
  unfolding joined
  joined-at zero b k l m = absurd (omega arith)
  joined-at (suc n) b k l m = go (joined-at n b k) (cases_lt b n)
    where
      go : (b < n → k < 512 → slice_index (joined g n) (512 * b + k) ≡ slice_index (g b) k) → (b < n) ⊎ (n ≤ b) → slice_index (joined g (suc n)) (512 * b + k) ≡ slice_index (g b) k
      go before (inl h) = get_or_append_left (joined g n) (g n) 0 (512 * b + k) (omega (arith, length-joined n)) ∙ before h m
      go before (inr h) =
          let same : n ≡ b = omega arith in
          get_or-append_right (joined g n) (g n) (512 * n) (512 * b + k) 0 (length-joined n) (omega arith)
          ∙ ap₂ (λ (c j : ℕ). slice_index (g c) j) same (omega (arith, same))

  pub byte-joined : (n b i : ℕ) → b < n → i < 512 → byte_at (joined g n) b i ≡ slice_index (g b) i
  unfolding byte_at
  byte-joined n b i l m = joined-at n b i l m

  -- a byte of the second block, at an offset from the first
  pub byte-joined_next : (n i : ℕ) → 1 < n → 512 ≤ i → i < 1024 → byte_at (joined g n) 0 i ≡ slice_index (g 1) (i - 512)
  unfolding byte_at
  byte-joined_next n i l m h = ap (slice_index (joined g n)) (omega arith) ∙ joined-at n 1 (i - 512) l (omega arith)

  pub bytes-joined : (n b i m : ℕ) → b < n → i + m ≤ 512 → bytes_at (joined g n) b i m ≡ take m (drop i (g b))
  unfolding bytes_at
  bytes-joined n b i m l fits =
      ext_get_or 0 (take m (drop (512 * b + i) (joined g n))) (take m (drop i (g b)))
      (omega (arith, length-take m (drop (512 * b + i) (joined g n)), length-take m (drop i (g b)), length-drop (512 * b + i) (joined g n), length-drop i (g b), length-joined n, full b))
      (λ j h.
      let small : j < m = omega (arith, h, length-take m (drop (512 * b + i) (joined g n))) in
      get_or-take m (drop (512 * b + i) (joined g n)) j 0 small ∙ get_or-drop (512 * b + i) (joined g n) j 0
      ∙ ap (slice_index (joined g n)) (omega arith)
      ∙ joined-at n b (i + j) l (omega (arith, small, fits))
      ∙ sym (get_or-take m (drop i (g b)) j 0 small ∙ get_or-drop i (g b) j 0))

  pub long-joined : (n b i : ℕ) → b < n → i < 128 → long (joined g n) b i ≡ number (drop (4 * i) (g b))
  unfolding long
  long-joined n b i l m =
      let at_each : (j : ℕ) → j < 4 → slice_index (drop (512 * b + 4 * i) (joined g n)) j ≡ slice_index (drop (4 * i) (g b)) j = λ j h.
      get_or-drop (512 * b + 4 * i) (joined g n) j 0 ∙ ap (slice_index (joined g n)) (omega arith) ∙ joined-at n b (4 * i + j) l (omega arith) ∙ sym (get_or-drop (4 * i) (g b) j 0) in
      rw (at_each 0 (omega arith), at_each 1 (omega arith), at_each 2 (omega arith), at_each 3 (omega arith)) refl

-- a block of longs
unfoldable pub of_longs : List ℕ → List ℕ
of_longs longs = flat_map (λ x. x / 16777216 ∷ x / 65536 % 256 ∷ x / 256 % 256 ∷ x % 256 ∷ []) longs

pub length-of_longs : (longs : List ℕ) → length (of_longs longs) ≡ 4 * length longs
unfolding of_longs
length-of_longs [] = refl
length-of_longs (x ∷ xs) = omega (arith, length-of_longs xs)

pub long-of_longs : (longs : List ℕ) (i : ℕ) → AllByRecursion (λ x. x < 2 ^ 32) longs → i < length longs → number (drop (4 * i) (of_longs longs)) ≡ slice_index longs i
unfolding of_longs
long-of_longs [] i h l = absurd (omega arith)
long-of_longs (x ∷ xs) zero h l = omega arith
long-of_longs (x ∷ xs) (suc i) h l =
    let behind : 4 * suc i ≡ suc (suc (suc (suc (4 * i)))) = omega arith in
    ap (λ (k : ℕ). number (drop k (of_longs (x ∷ xs)))) behind ∙ long-of_longs xs i h.1 (omega arith)
