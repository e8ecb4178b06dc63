use Rattle.ados_salvage.proofs.Common.{◌≡◌, ◌<◌, All, false, map, take, block_count, Tree, Stands, IsOfTree, broken_total, located_of, IsReadable}
use Rattle.ados_salvage.proofs.listing.entries_of.Given as goal

-- the entries before this one are described
abbrev pub invariant-loop-entry : goal.invariant-loop-entry
invariant-loop-entry l = record {
  located : map located_of l.found.items ≡ take l.entry-index l.below;
  told : (t : Tree) → Stands l.volume.image t → All (IsOfTree l.volume.image t) l.found.items;
  readable : All (IsReadable l.volume.image) l.found.items;
  inside : All (λ entry. entry.header < block_count l.volume.image) l.found.items;
  reached : All (λ entry. entry.found ≡ false) l.found.items;
  whole : broken_total l.found.items ≡ 0;
}
