-- The first four bytes.
use Rattle.ados_check.proofs.Common.{◌≡◌, ◌≢◌, ℕ, ◌≤◌, ◌==◌, if◌then◌else◌, List, [], ◌∷◌, length, take, slice_index, refl, sym, ◌∙◌, arith, byte_at, bytes_at, format_of, IsDos, Ofs, Ffs, format_byte}

first_four : (image : List ℕ) → 4 ≤ length image → take 4 image ≡ slice_index image 0 ∷ slice_index image 1 ∷ slice_index image 2 ∷ slice_index image 3 ∷ []
first_four (a ∷ b ∷ c ∷ d ∷ rest) h = refl
first_four _ h = absurd (omega arith)

first_three : (image : List ℕ) → 3 ≤ length image → take 3 image ≡ slice_index image 0 ∷ slice_index image 1 ∷ slice_index image 2 ∷ []
first_three (a ∷ b ∷ c ∷ rest) h = refl
first_three _ h = absurd (omega arith)

pub dos_bytes : (image : List ℕ) (k : ℕ) → k ≡ format_byte (if k == 0 then Ofs else Ffs) → 4 ≤ length image → IsDos image → byte_at image 0 3 ≡ k → bytes_at image 0 0 4 ≡ 68 ∷ 79 ∷ 83 ∷ format_byte (format_of image) ∷ []
unfolding bytes_at byte_at
dos_bytes image k known long dos last = first_four image long ∙ rw (last, ← known) cc

pub is_dos : (image : List ℕ) → 4 ≤ length image → IsDos image → bytes_at image 0 0 3 ≡ 68 ∷ 79 ∷ 83 ∷ []
unfolding bytes_at byte_at
is_dos image long dos = first_three image (omega arith) ∙ cc

pub not_dos : (image : List ℕ) → 4 ≤ length image → ¬ IsDos image → bytes_at image 0 0 3 ≢ 68 ∷ 79 ∷ 83 ∷ []
unfolding bytes_at byte_at
not_dos image long other e =
    let same : (slice_index image 0 ∷ slice_index image 1 ∷ slice_index image 2 ∷ []) ≡ (68 ∷ 79 ∷ 83 ∷ []) = sym (first_three image (omega arith)) ∙ e in
    other (cc, cc, cc)
