-- A list with some of its elements overwritten.
use Rattle.adf_block.proofs.Common.{◌≡◌, ℕ, ◌+◌, ◌-◌, ◌<◌, ◌≤◌, ◌^◌, ◌++◌, List, [], length, take, drop, slice_index, arith, ap, ap₂, sym, ◌∙◌, append_assoc, length-append, length-take, length-drop, take_rest, drop_all, drop-drop, take_at, drop_at, get_or-drop, get_or-take, append-nil, get_or_append_left, get_or-append_right, big_bytes, big_number}
use Rattle.byteorder.specs.Numbers.{big_number-reads_back}

-- a whole list overwritten, then cut to the old length
pub written_whole : (xs ys : List ℕ) → length ys ≡ length xs → take (length xs) (ys ++ drop (length ys) xs) ≡ ys
written_whole xs ys h = take_at ys (drop (length ys) xs) (length xs) h

-- the length stays the same, for any list
pub length-written : (xs ys : List ℕ) → length (take (length xs) (ys ++ drop (length ys) xs)) ≡ length xs
length-written xs ys = omega (arith, length-take (length xs) (ys ++ drop (length ys) xs), length-append ys (drop (length ys) xs), length-drop (length ys) xs)

-- four bytes written from n, as a write into the rest of the list
pub written_rest : (xs : List ℕ) (n : ℕ) (w : List ℕ) → n + 4 ≤ length xs → take n xs ++ (w ++ drop 4 (take (length xs - n) (drop n xs)) ++ drop (length xs - n) (drop n xs)) ≡ take n xs ++ w ++ drop (n + 4) xs
written_rest xs n w h =
    let rest : drop 4 (take (length xs - n) (drop n xs)) ≡ drop (n + 4) xs = ap (drop 4) (take_rest xs n) ∙ drop-drop 4 n xs in
    let none : drop (length xs - n) (drop n xs) ≡ [] = drop_all (length xs - n) (drop n xs) (omega (arith, length-drop n xs)) in
    ap₂ (λ (ys zs : List ℕ). take n xs ++ (w ++ ys ++ zs)) rest none
    ∙ ap (λ (ys : List ℕ). take n xs ++ ys) (append-nil (w ++ drop (n + 4) xs))
    ∙ sym (append_assoc (take n xs) w (drop (n + 4) xs))

-- the list with the four bytes of v written from n
abbrev pub with_number : List ℕ → ℕ → ℕ → List ℕ
with_number xs n v = take n xs ++ big_bytes 4 v ++ drop (n + 4) xs

pub length-with_number : (xs : List ℕ) (n v : ℕ) → n + 4 ≤ length xs → length (with_number xs n v) ≡ length xs
length-with_number xs n v h =
    omega (arith, length-append (take n xs ++ big_bytes 4 v) (drop (n + 4) xs), length-append (take n xs) (big_bytes 4 v), length-take n xs, length-drop (n + 4) xs)

-- a byte before the number
pub before-with_number : (xs : List ℕ) (n v k : ℕ) → n + 4 ≤ length xs → k < n → slice_index (with_number xs n v) k ≡ slice_index xs k
before-with_number xs n v k h lt =
    ap (λ (ys : List ℕ). slice_index ys k) (append_assoc (take n xs) (big_bytes 4 v) (drop (n + 4) xs))
    ∙ get_or_append_left (take n xs) (big_bytes 4 v ++ drop (n + 4) xs) 0 k (omega (arith, length-take n xs))
    ∙ get_or-take n xs k 0 lt

-- a byte after the number
pub behind-with_number : (xs : List ℕ) (n v k : ℕ) → n + 4 ≤ length xs → n + 4 ≤ k → slice_index (with_number xs n v) k ≡ slice_index xs k
behind-with_number xs n v k h le =
    let front : length (take n xs ++ big_bytes 4 v) ≡ n + 4 = omega (arith, length-append (take n xs) (big_bytes 4 v), length-take n xs) in
    get_or-append_right (take n xs ++ big_bytes 4 v) (drop (n + 4) xs) (n + 4) k 0 front le
    ∙ get_or-drop (n + 4) xs (k - (n + 4)) 0
    ∙ ap (slice_index xs) (omega arith)

-- the number itself
pub number-with_number : (xs : List ℕ) (n v : ℕ) → n + 4 ≤ length xs → v < 2 ^ 32 → big_number 4 (drop n (with_number xs n v)) ≡ v
number-with_number xs n v h fits =
    let front : length (take n xs) ≡ n = omega (arith, length-take n xs) in
    ap (λ (ys : List ℕ). big_number 4 (drop n ys)) (append_assoc (take n xs) (big_bytes 4 v) (drop (n + 4) xs))
    ∙ ap (big_number 4) (drop_at (take n xs) (big_bytes 4 v ++ drop (n + 4) xs) n front)
    ∙ big_number-reads_back 4 v (drop (n + 4) xs) fits

-- w written from n, as a write into the rest of the list, cut to the old length
pub overlaid : (xs : List ℕ) (n m len : ℕ) (w : List ℕ) → n ≡ m → len ≡ length xs → n ≤ length xs
    → take len (take n xs ++ (w ++ drop (length w) (drop n xs)) ++ drop (length (take n xs ++ (w ++ drop (length w) (drop n xs)))) xs)
    ≡ take (length xs) (take m xs ++ w ++ drop (m + length w) xs)
overlaid xs n m len w at whole le =
    let rest : drop (length w) (drop n xs) ≡ drop (n + length w) xs = drop-drop (length w) n xs in
    let long : length xs ≤ length (take n xs ++ (w ++ drop (length w) (drop n xs))) =
    omega (arith, length-append (take n xs) (w ++ drop (length w) (drop n xs)), length-append w (drop (length w) (drop n xs)), length-take n xs, length-drop (length w) (drop n xs), length-drop n xs) in
    let none : drop (length (take n xs ++ (w ++ drop (length w) (drop n xs)))) xs ≡ [] = drop_all (length (take n xs ++ (w ++ drop (length w) (drop n xs)))) xs long in
    ap₂ (λ (k : ℕ) (ys : List ℕ). take k (take n xs ++ (w ++ drop (length w) (drop n xs)) ++ ys)) whole none
    ∙ ap (take (length xs)) (append-nil (take n xs ++ (w ++ drop (length w) (drop n xs))))
    ∙ ap (λ (ys : List ℕ). take (length xs) (take n xs ++ (w ++ ys))) rest
    ∙ ap (take (length xs)) (sym (append_assoc (take n xs) w (drop (n + length w) xs)))
    ∙ ap (λ (k : ℕ). take (length xs) (take k xs ++ w ++ drop (k + length w) xs)) at
