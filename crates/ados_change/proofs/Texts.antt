-- A text after its length.
use Rattle.ados_change.proofs.Common.{◌≡◌, ℕ, ◌+◌, ◌<◌, ◌≤◌, List, length, slice_index, sym, ap, ◌∙◌, arith, ext_get_or, block_count, byte_at, bytes_at, HasText, SameBut, Within, byte-bytes_at, same_count}
use Rattle.ados_data.proofs.Reading.{length-bytes_at}

-- bytes of a block, written one by one
pub bytes_put : (image : List ℕ) (b at : ℕ) (bytes : List ℕ) → b < block_count image → at + length bytes ≤ 512 → ((k : ℕ) → k < length bytes → byte_at image b (at + k) ≡ slice_index bytes k) → bytes_at image b at (length bytes) ≡ bytes
bytes_put image b at bytes inside room put =
    let count = length-bytes_at image b at (length bytes) inside room in
    ext_get_or 0 (bytes_at image b at (length bytes)) bytes count (λ k l.
    let m : k < length bytes = omega (arith, count) in
    byte-bytes_at image b at (length bytes) k m ∙ put k m)

-- the length is written, then the text after it
pub text_put : (old mid new : List ℕ) (b at : ℕ) (text : List ℕ) → b < block_count old → at + 1 + length text ≤ 512
    → byte_at mid b (at + 0) ≡ length text → SameBut (Within b at (at + 1)) old mid
    → ((k : ℕ) → k < length text → byte_at new b (at + 1 + k) ≡ slice_index text k) → SameBut (Within b (at + 1) (at + 1 + length text)) mid new
    → HasText new b at text
text_put old mid new b at text inside room first frame second frame' =
    let here : at + 0 ≡ at = omega arith in
    let count : block_count new ≡ block_count old = same_count _ mid new frame' ∙ same_count _ old mid frame in
    record {
      counted = frame'.same_byte b at (omega arith) (λ h. omega (arith, h.1)) ∙ ap (byte_at mid b) (sym here) ∙ first;
      follows = bytes_put new b (at + 1) text (omega (arith, inside, count)) room second;
    }
