use Rattle.std.proofs.Common.{ℕ, ◌+◌, ◌<◌, ◌^◌, ap, ◌∙◌, arith}
use Rattle.adf_import.proofs.Common.{Format, Ofs, Ffs, block_cost, format_of, format_is}
use Rattle.adf_import.proofs.room.new_file_blocks.Goals as goal

-- a size below 2^64 needs fewer than 2^64 blocks
cost_small : (format : Format) (size : ℕ) → size < 2 ^ 64 → 1 + block_cost format size < 2 ^ 64
cost_small Ofs size small = omega arith
cost_small Ffs size small = omega arith

pub returns : goal.returns
returns c = λ t s.
    ap (λ (n : ℕ). 1 + n) c.blocks_of.ensures
    ∙ ap (λ (f : Format). 1 + block_cost f c.args.size) (c.format.ensures ∙ ap format_of c.image.ensures.same ∙ format_is c.args.volume.now.image t s)
