-- A text in pieces, from the left and from the right.
use Rattle.adf_record.proofs.Common.{◌≡◌, ℕ, List, ◌++◌, append_assoc, sym}

pub five : (a b c d e : List ℕ) → a ++ (b ++ (c ++ (d ++ e))) ≡ a ++ b ++ c ++ d ++ e
five a b c d e = sym (simp append_assoc)

pub eight : (a b c d e f g h : List ℕ) → a ++ (b ++ (c ++ (d ++ (e ++ (f ++ (g ++ h)))))) ≡ a ++ b ++ c ++ d ++ e ++ f ++ g ++ h
eight a b c d e f g h = sym (simp append_assoc)
