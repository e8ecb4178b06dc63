use Rattle.std.proofs.Common.{vec_items}
use Rattle.adf_io.proofs.Parts.{ReadSome}
use Rattle.adf_io.proofs.input.read_on.Given as goal

abbrev pub invariant-loop-reads : goal.invariant-loop-reads
invariant-loop-reads g l = ReadSome l.most (g.R.Read.remaining l.initial.reader) (g.R.Read.remaining l.reader) (vec_items l.initial.bytes) (vec_items l.bytes) l.reads
