-- The parts of a line, one after the other.
use Rattle.adf_export.proofs.Common.{◌≡◌, ℕ, ◌-◌, ◌==◌, min, Bool, true, false, List, [], ◌∷◌, ◌++◌, length, drop, replicate, append_assoc, append-nil, sym, ap, ◌∙◌, arith, if◌then◌else◌, codes, drop-replicate, comment_text, shown}

pub blanks : (n : ℕ) → drop (min n 8) (codes "        ") ≡ replicate (8 - n) 32
blanks n =
    let left : 8 - min n 8 ≡ 8 - n = omega arith in
    drop-replicate (min n 8) 8 32 ∙ ap (λ (k : ℕ). replicate k 32) left

pub six_pieces : (text a b c d e f : List ℕ) → text ++ a ++ b ++ c ++ d ++ e ++ f ≡ text ++ (a ++ b ++ c ++ d ++ e ++ f)
six_pieces text a b c d e f = simp append_assoc

-- no comment, and one in quotes
module _ (text comment : List ℕ) where
  abbrev if_quoted : Bool → List ℕ
  if_quoted none = text ++ (if none then [] else codes " \"" ++ shown true comment ++ codes "\"")

  pub no_comment : (length comment == 0) ≡ true → text ≡ text ++ comment_text comment
  no_comment none = sym (append-nil text) ∙ ap if_quoted (sym none)

  pub some_comment : (length comment == 0) ≡ false → text ++ codes " \"" ++ shown true comment ++ 34 ∷ [] ≡ text ++ comment_text comment
  some_comment some =
      ap (λ (l : List ℕ). l ++ 34 ∷ []) (append_assoc text (codes " \"") (shown true comment))
      ∙ append_assoc text (codes " \"" ++ shown true comment) (34 ∷ []) ∙ ap if_quoted (sym some)
