use Rattle.std.proofs.Common.{◌≡◌, All, map, take}
use Rattle.adf_cli.specs.Blocks.{IsOnFloppy, block_text}
use Rattle.adf_cli.proofs.block_word.asked_blocks.Given as goal

-- the blocks of the arguments before this one
abbrev pub invariant-loop-word : goal.invariant-loop-word
invariant-loop-word l = record {
  texts : map block_text l.blocks.items ≡ map (λ word. word.now) (take l.word-index l.words);
  on_floppy : All IsOnFloppy l.blocks.items;
}
