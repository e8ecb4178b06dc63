use Rattle.adf_where.proofs.Common.{ℕ, ◌+◌, List, get_or, take, sym, subst, AllZip, Contains-get_or, get_or_default, FaultyBlock, IsFaultyBlock}
use Rattle.adf_where.proofs.Zipped.{zipped_more}
use Rattle.adf_where.proofs.faulty.faulty_blocks.Goals as goal

pub loop-block-preserved : goal.loop-block-preserved
loop-block-preserved c =
    let R = λ (block : ℕ) (told : FaultyBlock). IsFaultyBlock c.args.image.now c.args.unread.now block told in
    let blocks = c.args.blocks.now in
    let i = c.loop-block.block-index in
    let here = c.faulty_block.ensures blocks c.requires.asked (Contains-get_or blocks i 0 c.loop-block-test.true) in
    subst (λ (told : List FaultyBlock). AllZip R (take (i + 1) blocks) told) (sym c.in_ok-push.ensures.items)
    (zipped_more R blocks i c.loop-block.told.items (get_or blocks i 0) c.faulty_block.result c.loop-block-test.true
    (get_or_default blocks i 0 (get_or blocks i 0) c.loop-block-test.true) c.loop-block.invariant here)
