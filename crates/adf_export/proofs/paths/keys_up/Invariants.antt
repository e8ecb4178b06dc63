use Rattle.adf_export.proofs.Common.{◌≡◌, ◌-◌, ◌++◌, All, HasKey, Stands, Tree, front, names_down}
use Rattle.adf_export.proofs.paths.keys_up.Given as goal

-- the names of the directories so far follow those of the ones above
abbrev pub invariant-loop-depth : goal.invariant-loop-depth
invariant-loop-depth l = record {
  key : HasKey l.volume.image l.key;
  keys : All (HasKey l.volume.image) l.keys.items;
  names : (t : Tree) → Stands l.volume.image t → front t (t.blocks - l._depth) l.key ++ names_down t l.keys.items ≡ front t t.blocks l.initial.key;
}
