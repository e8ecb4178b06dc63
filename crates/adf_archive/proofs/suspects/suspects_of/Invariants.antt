use Rattle.adf_archive.proofs.Common.{Stands, Tree}
use Rattle.adf_archive.proofs.Suspecting.{AreSuspectsBelow}
use Rattle.adf_archive.proofs.suspects.suspects_of.Given as goal

-- the suspect blocks before this one
abbrev pub invariant-loop-block : goal.invariant-loop-block
invariant-loop-block l = (t : Tree) → Stands l.volume.image t → AreSuspectsBelow l.search.filler l.search.marks.now l.volume.image t l.block l.found.items
