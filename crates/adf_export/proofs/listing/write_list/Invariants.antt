use Rattle.adf_export.proofs.Common.{Stands, Tree, HaveKeys}
use Rattle.adf_export.proofs.Written.{IsWritten}
use Rattle.adf_export.proofs.listing.write_list.Given as goal

-- the levels are places in directories of the volume, and the listing is written so far
abbrev pub invariant-loop : goal.invariant-loop
invariant-loop g l = HaveKeys l.volume.image l.listing.levels.items
    × ((t : Tree) → Stands l.volume.image t → IsWritten t l.order l.key l.form (g.W.Write.contents l.initial.writer) (g.W.Write.contents l.writer) l.listing l.counter)
