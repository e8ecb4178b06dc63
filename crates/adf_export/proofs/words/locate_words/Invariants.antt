use Rattle.adf_export.proofs.Common.{◌≡◌, All, map, take, Tree, Stands, HasKey, LeadTo}
use Rattle.adf_export.proofs.words.locate_words.Given as goal

-- the arguments before this one lead to these objects
abbrev pub invariant-loop-word : goal.invariant-loop-word
invariant-loop-word l = record {
  same : l.volume ≡ l.initial.volume;
  keys : All (HasKey l.initial.volume.image) l.keys.items;
  lead : (t : Tree) → Stands l.initial.volume.image t → LeadTo t (map (λ word. word.now) (take l.word-index l.words)) l.keys.items;
}
