use Rattle.adf_io.specs.Prefix.{Passes}
use Rattle.adf_where.proofs.TellingFaulty.{block_to}
use Rattle.adf_where.proofs.faulty_text.write_block.Given as goal

-- the text up to this place is written, but for its end, which waits
abbrev pub invariant-loop-at : goal.invariant-loop-at
invariant-loop-at g l = Passes (g.W.Write.contents l.fn.writer) (g.W.Write.contents l.writer) (block_to l.json l.fn.text.items l.blocks l.told l.at) l.text.items
