-- A list with another list written over a part of it.
use Rattle.ados_data.proofs.Common.{◌≡◌, ℕ, ◌+◌, ◌-◌, ◌<◌, ◌≤◌, ◌++◌, inl, inr, List, length, replicate, [], add-zero, take, drop, slice_index, refl, sym, ap, ap₂, ◌∙◌, append_assoc, drop-drop, take-take, take_at, arith, ◌*◌, ◌%◌, min, cases_lt, ext_get_or, get_or_append_left, get_or-append_right, get_or-take, get_or-drop, length-take, length-drop, length-append, length-replicate, get_or-replicate, take-append-le, take_all, overlaid, Format, data_count, data_size, IsLonger}
use Rattle.std.proofs.Math.Seq.{drop-append-add, take-add, take-append_seam}
use Rattle.std.proofs.lemmas.List.{append-nil, drop-replicate, drop_all, replicate-append-replicate, take-append-drop, take-replicate}
use Rattle.ados_data.proofs.Sizes.{rest_covered}

-- nothing written
pub overlaid_none : (xs : List ℕ) (pos : ℕ) → xs ≡ overlaid xs pos []
overlaid_none xs pos = simp (append-nil, add-zero, take-append-drop)

module _ (xs : List ℕ) (pos : ℕ) (ys : List ℕ) (room : pos ≤ length xs) where
  front : length (take pos xs) ≡ pos
  front = omega (arith, length-take pos xs)

  both : length (take pos xs ++ ys) ≡ pos + length ys
  both = omega (arith, length-append (take pos xs) ys, front)

  pub overlaid_before : (k : ℕ) → k < pos → slice_index (overlaid xs pos ys) k ≡ slice_index xs k
  overlaid_before k l =
      get_or_append_left (take pos xs ++ ys) (drop (pos + length ys) xs) 0 k (omega (arith, both, l))
      ∙ get_or_append_left (take pos xs) ys 0 k (omega (arith, front, l))
      ∙ get_or-take pos xs k 0 l

  pub overlaid_within : (k : ℕ) → pos ≤ k → k < pos + length ys → slice_index (overlaid xs pos ys) k ≡ slice_index ys (k - pos)
  overlaid_within k l m =
      get_or_append_left (take pos xs ++ ys) (drop (pos + length ys) xs) 0 k (omega (arith, both, m))
      ∙ get_or-append_right (take pos xs) ys pos k 0 front l

  pub overlaid_behind : (k : ℕ) → pos + length ys ≤ k → slice_index (overlaid xs pos ys) k ≡ slice_index xs k
  overlaid_behind k l =
      let place : pos + length ys + (k - (pos + length ys)) ≡ k = omega arith in
      get_or-append_right (take pos xs ++ ys) (drop (pos + length ys) xs) (pos + length ys) k 0 both l
      ∙ get_or-drop (pos + length ys) xs (k - (pos + length ys)) 0
      ∙ ap (slice_index xs) place

  pub length-overlaid : pos + length ys ≤ length xs → length (overlaid xs pos ys) ≡ length xs
  length-overlaid fits = omega (arith, length-append (take pos xs ++ ys) (drop (pos + length ys) xs), both, length-drop (pos + length ys) xs, fits)

-- one part after the other
pub overlaid_more : (xs : List ℕ) (pos : ℕ) (ys : List ℕ) (done part : ℕ) → pos + length ys ≤ length xs → done + part ≤ length ys → overlaid (overlaid xs pos (take done ys)) (pos + done) (take part (drop done ys)) ≡ overlaid xs pos (take (done + part) ys)
overlaid_more xs pos ys done part fits within =
    let all = take pos xs ++ take done ys in
    let rest = drop (pos + length (take done ys)) xs in
    let next = take part (drop done ys) in
    let dl : length (take done ys) ≡ done = omega (arith, length-take done ys) in
    let pl : length next ≡ part = omega (arith, length-take part (drop done ys), length-drop done ys) in
    let front : length all ≡ pos + done = omega (arith, length-append (take pos xs) (take done ys), length-take pos xs, dl) in
    ap₂ (λ (a b : List ℕ). a ++ b)
    (ap (λ (zs : List ℕ). zs ++ next) (take_at all rest (pos + done) front) ∙ append_assoc (take pos xs) (take done ys) next ∙ ap (λ (zs : List ℕ). take pos xs ++ zs) (sym (take-add done part ys)))
    (ap (λ (n : ℕ). drop n (all ++ rest)) (omega (arith, front)) ∙ drop-append-add all rest (length next) ∙ drop-drop (length next) (pos + length (take done ys)) xs ∙ ap (λ (n : ℕ). drop n xs) (omega (arith, dl, pl, length-take (done + part) ys)))

-- written over a list that ends with zeros
pub overlaid_zeros : (xs : List ℕ) (pos : ℕ) (ys : List ℕ) (n : ℕ) → pos ≤ length xs → n ≡ pos + length ys - length xs → overlaid (xs ++ replicate n 0) pos ys ≡ overlaid xs pos ys
overlaid_zeros xs pos ys n h e =
    ap₂ (λ (a b : List ℕ). a ++ ys ++ b) (take-append-le pos xs (replicate n 0) h)
    (elim (cases_lt (pos + length ys) (length xs)) [
      | inl l ↦ let none : n ≡ 0 = omega (arith, e, l) in ap (λ (m : ℕ). drop (pos + length ys) (xs ++ replicate m 0)) none ∙ ap (drop (pos + length ys)) (append-nil xs)
      | inr l ↦ drop_all (pos + length ys) (xs ++ replicate n 0) (omega (arith, e, l, length-append xs (replicate n 0), length-replicate {A = ℕ} n 0)) ∙ sym (drop_all (pos + length ys) xs l)
    ])

-- zeros written over zeros
pub zeros_over : (xs : List ℕ) (n part : ℕ) (ys : List ℕ) → part ≤ n → part ≤ 512 → ys ≡ take part (replicate 512 0) → overlaid (xs ++ replicate n 0) (length xs) ys ≡ xs ++ replicate n 0
zeros_over xs n part ys l few e =
    let zeros : ys ≡ replicate part 0 = e ∙ take-replicate part 512 0 few in
    ap₂ (λ (a b : List ℕ). a ++ ys ++ b) (take-append_seam xs (replicate n 0)) (drop-append-add xs (replicate n 0) (length ys) ∙ drop-replicate (length ys) n 0)
    ∙ append_assoc xs ys (replicate (n - length ys) 0)
    ∙ ap (λ (zs : List ℕ). xs ++ zs) (ap₂ (λ (a : List ℕ) (m : ℕ). a ++ replicate (n - m) 0) zeros (ap length zeros ∙ length-replicate {A = ℕ} part 0) ∙ replicate-append-replicate part (n - part) 0 ∙ ap (λ (m : ℕ). replicate {A = ℕ} m 0) (omega arith))

-- more bytes within the last block
pub longer_filled : (format : Format) (xs ys zs : List ℕ) (size : ℕ) → zs ≡ xs ++ ys → length zs ≡ size → size ≤ data_size format * data_count format (length xs) → IsLonger format xs size zs
longer_filled format xs ys zs size e n within = record {
  front = ap (take (length xs)) e ∙ take-append-le (length xs) xs ys (omega arith) ∙ take_all (length xs) xs (omega arith);
  count = n;
  zeros = λ k l m. absurd (omega (arith, l, m, within));
}

-- zeros after them
pub longer_zeros : (format : Format) (xs ys zs : List ℕ) (reached next : ℕ) → length xs ≤ reached → reached ≤ next → IsLonger format xs reached ys → zs ≡ ys ++ replicate (next - length ys) 0 → IsLonger format xs next zs
longer_zeros format xs ys zs reached next a b h e = record {
  front = ap (take (length xs)) e ∙ take-append-le (length xs) ys (replicate (next - length ys) 0) (omega (arith, a, h.count)) ∙ h.front;
  count = ap length e ∙ length-append ys (replicate (next - length ys) 0) ∙ omega (arith, length-replicate {A = ℕ} (next - length ys) 0, b, h.count);
  zeros = λ k l m. elim (cases_lt k reached) [
    | inl c ↦ ap (λ (us : List ℕ). slice_index us k) e ∙ get_or_append_left ys (replicate (next - length ys) 0) 0 k (omega (arith, c, h.count)) ∙ h.zeros k l c
    | inr c ↦
        ap (λ (us : List ℕ). slice_index us k) e
        ∙ get_or-append_right ys (replicate (next - length ys) 0) reached k 0 h.count c
        ∙ get_or-replicate (next - length ys) (k - reached) 0 0 (omega (arith, c, m, h.count))
  ];
}

-- bytes written over all that was added in the last block, as over zeros
pub overlaid_longer : (format : Format) (xs zs : List ℕ) (size pos : ℕ) (ys : List ℕ) → IsLonger format xs size zs → length xs ≤ size → pos ≤ length xs → pos + length ys ≤ size
    → (length xs < size → min size (data_size format * data_count format (length xs)) ≤ pos + length ys) → overlaid zs pos ys ≡ overlaid (xs ++ replicate (size - length xs) 0) pos ys
overlaid_longer format xs zs size pos ys h more start within over =
    let n = size - length xs in
    let k = pos + length ys in
    let whole : length (xs ++ replicate n 0) ≡ size = length-append xs (replicate n 0) ∙ omega (arith, length-replicate {A = ℕ} n 0, more) in
    let same : (j : ℕ) → k ≤ j → j < size → slice_index zs j ≡ slice_index (xs ++ replicate n 0) j = λ j a b. elim (cases_lt j (length xs)) [
      | inl c ↦ sym (get_or-take (length xs) zs j 0 c) ∙ ap (λ (us : List ℕ). slice_index us j) h.front ∙ sym (get_or_append_left xs (replicate n 0) 0 j c)
      | inr c ↦ h.zeros j (omega (arith, over (omega (arith, b, c)), a, b)) b ∙ sym (get_or-append_right xs (replicate n 0) (length xs) j 0 refl c ∙ get_or-replicate n (j - length xs) 0 0 (omega (arith, b, c)))
    ] in
    ap₂ (λ (a b : List ℕ). a ++ ys ++ b)
    (sym (take-take pos (length xs) zs start) ∙ ap (take pos) h.front ∙ sym (take-append-le pos xs (replicate n 0) start))
    (ext_get_or 0 (drop k zs) (drop k (xs ++ replicate n 0)) (omega (arith, length-drop k zs, length-drop k (xs ++ replicate n 0), h.count, whole))
    (λ i l.
    let there : k + i < size = omega (arith, l, length-drop k zs, h.count) in
    get_or-drop k zs i 0 ∙ same (k + i) (omega arith) there ∙ sym (get_or-drop k (xs ++ replicate n 0) i 0)))

-- zeros written over all that was added in the last block
pub zeroed_longer : (format : Format) (xs zs : List ℕ) (size part : ℕ) → IsLonger format xs size zs → length xs ≤ size → part ≡ min (data_size format - length xs % data_size format) (size - length xs) → overlaid zs (length xs) (take part (replicate 512 0)) ≡ xs ++ replicate (size - length xs) 0
zeroed_longer format xs zs size part h more part_is =
    let rest = rest_covered format (length xs) size part more part_is in
    let count : length {A = ℕ} (take part (replicate 512 0)) ≡ part = length-take part (replicate 512 0) ∙ omega (arith, rest.0, length-replicate {A = ℕ} 512 0) in
    overlaid_longer format xs zs size (length xs) (take part (replicate 512 0)) h more (omega arith) (omega (arith, count, part_is, more)) (λ l. omega (arith, count, rest.1))
    ∙ zeros_over xs (size - length xs) part (take part (replicate 512 0)) (omega (arith, part_is)) rest.0 refl
