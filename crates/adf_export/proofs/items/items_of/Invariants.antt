use Rattle.adf_export.proofs.Common.{flat_map, ◌≡◌, take, Tree, Stands, EachGoesOut, sources_of}
use Rattle.adf_export.proofs.items.items_of.Given as goal

-- the items and sources for the entries before this one are there
abbrev pub invariant-loop-entry : goal.invariant-loop-entry
invariant-loop-entry l = record {
  items : (t : Tree) → Stands l.volume.image t → EachGoesOut t l.meta (take l.entry-index l.found) l.out.items.items;
  sources : l.out.sources.items ≡ flat_map (sources_of l.meta) (take l.entry-index l.found);
}
