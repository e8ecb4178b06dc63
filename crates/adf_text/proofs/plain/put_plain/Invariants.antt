use Rattle.adf_text.proofs.Common.{List, ℕ, Appends, char_indices_offset, char_indices_rest}
use Rattle.adf_text.proofs.PlainLemmas.{IsWritten}
use Rattle.adf_text.proofs.plain.put_plain.Given as goal

-- the text is written up to a place before the next letter
abbrev pub invariant-loop-place : goal.invariant-loop-place
invariant-loop-place g l = (written : List ℕ) × Appends (g.W.Write.contents l.initial.writer) (g.W.Write.contents l.writer) written
    × IsWritten l.has_lines l.text (char_indices_rest l.place-iterator) written l.front (char_indices_offset l.place-iterator)
