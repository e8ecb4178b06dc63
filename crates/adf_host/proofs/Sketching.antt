-- Images that are read piece by piece.
use Rattle.std.proofs.Common.{◌≡◌, ◌+◌, ◌-◌, ◌*◌, ◌%◌, ◌<◌, ◌≤◌, ℕ, List, ◌++◌, take, length, sym, ap, ◌∙◌, subst, Option, arith, length-append}
use lib.Seq.{take-append_seam}
use Rattle.std.proofs.KnownBytes.{Consumes-trans}
use Rattle.std.specs.Io.KnownBytes.{Consumes}

-- the sketch so far of an image of `blocks` blocks, and the number of bytes left; the buffer holds whole blocks
pub record TakesDown (blocks : ℕ) (old new : Option (List ℕ)) (sketch piece : List ℕ) (rest : ℕ) : Type 0 where
  pub consumed : Consumes old new sketch
  pub size : length sketch + rest ≡ 512 * blocks
  pub left : rest % 512 ≡ 0
  pub some : 512 ≤ length piece
  pub whole : length piece % 512 ≡ 0

-- a filled buffer, as its owner sees it
pub whole_buffer : (n : ℕ) (piece behind : List ℕ) → length piece ≡ n → take n (piece ++ behind) ≡ piece
whole_buffer n piece behind size = ap (λ k. take k (piece ++ behind)) (sym size) ∙ take-append_seam piece behind

-- one more piece, with the length of the buffer or of the remaining bytes
pub piece_more : (blocks : ℕ) (a b c : Option (List ℕ)) (sketch next was given piece : List ℕ) (rest n : ℕ) → TakesDown blocks a b sketch was rest → 0 < rest
    → n + (length was - rest) ≡ length was → length given ≡ n → Consumes b c given → piece ≡ given → next ≡ sketch ++ piece → TakesDown blocks a c next piece (rest - n)
piece_more blocks a b c sketch next was given piece rest n down more cut size consumed same grown =
    let long : length piece ≡ n = ap length same ∙ size in record {
      consumed = subst (Consumes a c) (sym (grown ∙ ap (λ l. sketch ++ l) same)) (Consumes-trans a b c _ _ down.consumed consumed);
      size = omega (arith, ap length grown, length-append sketch piece, down.size, cut, long);
      left = omega (arith, down.left, down.whole, cut);
      some = omega (arith, down.left, down.some, cut, long, more);
      whole = omega (arith, down.left, down.whole, cut, long);
    }
