-- The bytes for a file in a data block.
use Rattle.std.proofs.Common.{◌≡◌, ℕ, zero, suc, ◌+◌, ◌-◌, ◌*◌, List, [], ◌∷◌, length, take, drop, refl, ap, ap₂, ◌∙◌, arith}
use Rattle.std.proofs.lemmas.List.{drop-drop, drop-take}
unfoldable use Rattle.adf_block.specs.Image.{bytes_at}

take_again : (n : ℕ) (xs : List ℕ) → take n (take n xs) ≡ take n xs
take_again zero xs = refl
take_again (suc n) [] = refl
take_again (suc n) (x ∷ xs) = ap (λ (ys : List ℕ). x ∷ ys) (take_again n xs)

-- the bytes of a block without the 24 of its header
pub behind_header : (image : List ℕ) (block : ℕ) (bytes : List ℕ) → bytes ≡ bytes_at image block 0 512 → length bytes ≡ 512
    → take (length bytes - 24) (drop 24 bytes) ≡ bytes_at image block 24 488
unfolding bytes_at
behind_header image block bytes is whole =
    let size : length bytes - 24 ≡ 488 = omega (arith, whole) in
    let place : 512 * block + 0 + 24 ≡ 512 * block + 24 = omega arith in
    ap₂ (λ (n : ℕ) (xs : List ℕ). take n (drop 24 xs)) size is
    ∙ ap (take 488) (drop-take 24 488 (drop (512 * block + 0) image) ∙ ap (take 488) (drop-drop 24 (512 * block + 0) image ∙ ap (λ (n : ℕ). drop n image) place))
    ∙ take_again 488 (drop (512 * block + 24) image)
