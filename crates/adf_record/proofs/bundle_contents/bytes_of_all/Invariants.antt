use Rattle.adf_record.proofs.Common.{◌≡◌, map, take, Stands, Tree, bytes_of}
use Rattle.adf_record.proofs.bundle_contents.bytes_of_all.Given as goal

-- the objects before this one have their bytes
abbrev pub invariant-loop-entry : goal.invariant-loop-entry
invariant-loop-entry l = (t : Tree) → Stands l.volume.image t → map (λ bytes. bytes.items) l.contents.items ≡ map (λ e. bytes_of t e.key) (take l.entry-index l.found)
