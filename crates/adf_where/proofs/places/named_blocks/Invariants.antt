use Rattle.adf_where.proofs.Common.{◌<◌, All, take, AreNamed}
use Rattle.adf_where.proofs.places.named_blocks.Given as goal

-- the blocks of the arguments before this one
abbrev pub invariant-loop-word : goal.invariant-loop-word
invariant-loop-word l = record {
  named : AreNamed l.blocks (take l.word-index l.words) l.found.items;
  inside : All (λ block. block < l.blocks) l.found.items;
}
