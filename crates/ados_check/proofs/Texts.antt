-- The texts in the blocks of an image, and parts of blocks.
use Rattle.ados_check.proofs.Common.{◌≡◌, ℕ, ◌+◌, ◌*◌, ◌<◌, ◌≤◌, List, length, take, drop, slice_index, All, sym, ap, ◌∙◌, arith, length-take, length-drop, get_or-take, get_or-drop, All-from_get_or, IsImage, text_at, block_count, byte_at, bytes_at, HasText, COMMENT_BYTE, IsComment}

-- a part of a block has the requested number of bytes
pub length-bytes_at : (image : List ℕ) (b i n : ℕ) → IsImage image → b < block_count image → i + n ≤ 512 → length (bytes_at image b i n) ≡ n
unfolding bytes_at
length-bytes_at image b i n im l fits = length-take n (drop (512 * b + i) image) ∙ omega (arith, length-drop (512 * b + i) image, im.whole, l)

pub bytes_at-small : (image : List ℕ) (b i n : ℕ) → IsImage image → All (λ c. c < 256) (bytes_at image b i n)
unfolding bytes_at
bytes_at-small image b i n im = All-from_get_or (λ c. c < 256) (take n (drop (512 * b + i) image)) 0 (λ j l.
    let below : j < n = omega (arith, l, length-take n (drop (512 * b + i) image)) in
    let at : slice_index (take n (drop (512 * b + i) image)) j ≡ slice_index image (512 * b + i + j) = get_or-take n (drop (512 * b + i) image) j 0 below ∙ get_or-drop (512 * b + i) image j 0 in
    let small = im.byte (512 * b + i + j) in
    omega (arith, at, small))

-- a comment that is not too long
module _ (image : List ℕ) (b : ℕ) (im : IsImage image) (l : b < block_count image) (short : byte_at image b COMMENT_BYTE ≤ 79) where
  length-comment : length (text_at image b COMMENT_BYTE) ≡ byte_at image b COMMENT_BYTE
  length-comment = length-bytes_at image b (COMMENT_BYTE + 1) (byte_at image b COMMENT_BYTE) im l (omega arith)

  pub comment_text : HasText image b COMMENT_BYTE (text_at image b COMMENT_BYTE)
  comment_text = record { counted = sym length-comment; follows = ap (bytes_at image b (COMMENT_BYTE + 1)) length-comment }

  pub comment_valid : IsComment (text_at image b COMMENT_BYTE)
  comment_valid = record { short = omega (arith, length-comment); bytes = bytes_at-small image b (COMMENT_BYTE + 1) (byte_at image b COMMENT_BYTE) im }
