use Rattle.std.proofs.Common.{◌≡◌, [], ◌∷◌, ◌++◌, decimal, take}
use Rattle.std.specs.Prelude.{flat_map}
use Rattle.json.specs.Token.{number}
use Rattle.adf_rescue.proofs.rescue_object.put_blocks.Given as goal

-- the numbers of the blocks before this one
abbrev pub invariant-loop-block : goal.invariant-loop-block
invariant-loop-block l = record {
  before : l.writer.before ≡ l.fn.writer.before;
  tokens : l.writer.tokens ≡ l.fn.writer.tokens ++ flat_map (λ block. number (decimal block) ∷ []) (take l.block-index l.blocks);
}
