-- The first line of a script, and the remaining packet lines.
use Rattle.std.proofs.Common.{append-nil}
use Rattle.adf_script.proofs.Common.{◌≡◌, ℕ, ◌+◌, ◌<◌, false, cond, List, [], ◌∷◌, ◌++◌, length, slice_get, refl, sym, ap, ◌∙◌, arith, append_assoc, length-append, not, filter, enumerate_from, nil_from_length, slice_get_past, lines_of, on_first, is_skipped, kept_from, kept_lines, NoneIsLeft, IsLeft, has_byte}
use Rattle.std.specs.Prelude.{Some}
use Rattle.adf_script.proofs.Splitting.{or_false}

-- a line that ends in a line feed
pub lines_of-ended : (line rest : List ℕ) → has_byte 10 line ≡ false → lines_of (line ++ 10 ∷ rest) ≡ line ∷ lines_of rest
lines_of-ended [] rest h = refl
lines_of-ended (x ∷ xs) rest h =
    let tests = or_false _ _ h
    in ap (λ b. cond b ([] ∷ lines_of (xs ++ 10 ∷ rest)) (on_first x (lines_of (xs ++ 10 ∷ rest)))) tests.0 ∙ ap (on_first x) (lines_of-ended xs rest tests.1)

-- a last line without a line feed
pub lines_of-last : (line : List ℕ) → has_byte 10 line ≡ false → 0 < length line → lines_of line ≡ line ∷ []
lines_of-last [] h some = absurd (omega (arith, some))
lines_of-last (x ∷ []) h some = ap (λ b. cond b ([] ∷ []) ((x ∷ []) ∷ [])) (or_false _ _ h).0
lines_of-last (x ∷ (y ∷ ys)) h some =
    let tests = or_false _ _ h
    in ap (λ b. cond b ([] ∷ lines_of (y ∷ ys)) (on_first x (lines_of (y ∷ ys)))) tests.0 ∙ ap (on_first x) (lines_of-last (y ∷ ys) tests.1 (omega arith))

kept_from-kept : (number : ℕ) (rest line behind : List ℕ) → lines_of rest ≡ line ∷ lines_of behind → is_skipped line ≡ false
    → kept_from number rest ≡ (number, line) ∷ kept_from (number + 1) behind
kept_from-kept number rest line behind split kept =
    ap (λ l. filter (λ (p : ℕ × List ℕ). not (is_skipped p.1)) (enumerate_from number l)) split
    ∙ ap (λ b. cond (not b) ((number, line) ∷ kept_from (number + 1) behind) (kept_from (number + 1) behind)) kept

slice_get-seam : {A : Type 0} (xs : List A) (y : A) (ys : List A) → slice_get (xs ++ y ∷ ys) (length xs) ≡ Some y
slice_get-seam [] y ys = refl
slice_get-seam (x ∷ xs) y ys = slice_get-seam xs y ys

module _ (script : List ℕ) (number count : ℕ) (rest : List ℕ) (left : IsLeft script number count rest) where
  -- at the end
  pub none_left : length rest ≡ 0 → NoneIsLeft (kept_lines script) count
  none_left empty =
      let all : kept_lines script ≡ left.0 = left.1 ∙ ap (λ l. left.0 ++ kept_from (number + 1) l) (nil_from_length rest empty) ∙ append-nil left.0
      in ap (λ l. slice_get l count) all ∙ slice_get_past left.0 count (omega (arith, left.2))

  module _ (line behind : List ℕ) (first : lines_of rest ≡ line ∷ lines_of behind) where
    module _ (kept : is_skipped line ≡ false) where
      split : kept_lines script ≡ left.0 ++ (number + 1, line) ∷ kept_from (number + 1 + 1) behind
      split = left.1 ∙ ap (λ l. left.0 ++ l) (kept_from-kept (number + 1) rest line behind first kept)

      pub left-kept : IsLeft script (number + 1) (count + 1) behind
      left-kept = (
        left.0 ++ (number + 1, line) ∷ [],
        split ∙ sym (append_assoc left.0 ((number + 1, line) ∷ []) (kept_from (number + 1 + 1) behind)),
        length-append left.0 ((number + 1, line) ∷ []) ∙ ap (λ n. n + 1) left.2,
      )

      pub line_here : slice_get (kept_lines script) count ≡ Some (number + 1, line)
      line_here = ap (λ n. slice_get (kept_lines script) n) (sym left.2) ∙ (ap (λ l. slice_get l (length left.0)) split ∙ slice_get-seam left.0 (number + 1, line) (kept_from (number + 1 + 1) behind))
