use Rattle.adf_io.specs.Prefix.{Passes}
use Rattle.adf_where.proofs.TellingFaulty.{faulty_to}
use Rattle.adf_where.proofs.faulty_text.write_faulty.Given as goal

-- the text up to this block is written, but for its end, which waits
abbrev pub invariant-loop-place : goal.invariant-loop-place
invariant-loop-place g l = Passes (g.W.Write.contents l.fn.writer) (g.W.Write.contents l.writer) (faulty_to l.json l.front l.blocks l.told l.place) l.text.items
