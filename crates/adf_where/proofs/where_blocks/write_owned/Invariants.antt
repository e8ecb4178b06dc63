use Rattle.adf_where.proofs.Common.{Stands, Tree}
use Rattle.adf_io.specs.Prefix.{Passes}
use Rattle.adf_where.proofs.TellingOwned.{owned_to}
use Rattle.adf_where.proofs.where_blocks.write_owned.Given as goal

-- the text up to this block is written, but for its end, which waits
abbrev pub invariant-loop-place : goal.invariant-loop-place
invariant-loop-place g l =
    (t : Tree) → Stands l.volume.image t → Passes (g.W.Write.contents l.fn.writer) (g.W.Write.contents l.writer) (owned_to l.asking.json l.asking.unread.now t l.owners l.blocks l.place) l.text.items
