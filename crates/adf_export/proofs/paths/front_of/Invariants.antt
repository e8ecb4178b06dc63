use Rattle.adf_export.proofs.Common.{◌≡◌, ◌++◌, All, vec_len, HasKey, Stands, Tree, front, names_down}
use Rattle.adf_export.proofs.paths.front_of.Given as goal

-- the text, followed by the names of the remaining directories
abbrev pub invariant-loop-key : goal.invariant-loop-key
invariant-loop-key l = record {
  keys : All (HasKey l.volume.image) l.keys.items;
  names : (t : Tree) → Stands l.volume.image t → l.text.items ++ names_down t l.keys.items ≡ front t t.blocks l.dir;
}

abbrev pub decreases-loop-key : goal.decreases-loop-key
decreases-loop-key l = vec_len l.keys
