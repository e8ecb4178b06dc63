use Rattle.adf_record.proofs.Common.{◌≡◌, ◌≤◌, take, Tree, Stands, file_count}
use Rattle.adf_record.proofs.counts.count_files.Given as goal

-- the number of files among the entries before this one
abbrev pub invariant-loop-entry : goal.invariant-loop-entry
invariant-loop-entry l = (l.files ≤ l.entry-index) × ((t : Tree) → Stands l.volume.image t → l.files ≡ file_count t (take l.entry-index l.below))
