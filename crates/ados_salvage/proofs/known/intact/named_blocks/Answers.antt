use Rattle.ados_salvage.proofs.KnownCommon.{◌≡◌, ◌<◌, ◌/◌, arith, in_extensions, data_needed}
use Rattle.ados_salvage.proofs.FileBlocks.{all_data, gathered_more, holder_below, holder_read, holder_there, named_block}
use Rattle.ados_salvage.proofs.known.intact.named_blocks.Goals as goal

pub returns-then-needed-blocks : goal.returns-then-needed-blocks
returns-then-needed-blocks c = λ h. absurd (omega (arith, h.few, c.if-needed-blocks.true, c.data_needed-needed.ensures, c.blocks-2.ensures.count))

pub returns-in_default : goal.returns-in_default
returns-in_default c = λ h. (rw c.in_default.is at c.in_ok-blocks.ensures) h.holders

pub index-holder-requires : goal.index-holder-requires
index-holder-requires c =
    let below : c.loop-i.i < data_needed c.args.image.now c.args.file = omega (arith, c.loop-i-test.true, c.data_needed-needed.ensures) in
    omega (arith, c.loop-i.blocks.ok.0, holder_there c.args.image.now c.args.file c.loop-i.blocks.items c.loop-i.i c.loop-i.invariant below)

pub long-block-requires-clause-block : goal.long-block-requires-clause-block
long-block-requires-clause-block c =
    let held = rw c.in-Some.is at c.in_ok-blocks.ensures in
    let below : c.loop-i.i < data_needed c.args.image.now c.args.file = omega (arith, c.loop-i-test.true, c.data_needed-needed.ensures) in
    omega (
      arith,
      holder_read c.args.image.now c.args.file c.loop-i.blocks.items c.loop-i.i c.index-holder.result.now c.loop-i.invariant below c.index-holder.ensures,
      holder_below c.args.image.now c.args.file held.0 (c.loop-i.i / 72) (in_extensions c.loop-i.i (data_needed c.args.image.now c.args.file) below),
    )

pub loop-i-preserved : goal.loop-i-preserved
loop-i-preserved c =
    let below : c.loop-i.i < data_needed c.args.image.now c.args.file = omega (arith, c.loop-i-test.true, c.data_needed-needed.ensures) in
    let block = named_block c.args.image.now c.args.file c.loop-i.blocks.items c.loop-i.i c.index-holder.result.now c.long-block.result c.loop-i.invariant below c.index-holder.ensures c.long-block.ensures in
    gathered_more c.args.image.now c.args.file c.loop-i.blocks.items c.push.new.self.items c.loop-i.i c.long-block.result c.loop-i.invariant c.in_ok-push.ensures.items block

pub returns : goal.returns
returns c =
    let count : c.loop-i.i ≡ data_needed c.args.image.now c.args.file = omega (arith, c.loop-i-test.false, c.loop-i.auto.i-end, c.data_needed-needed.ensures) in
    (record { few = omega (arith, c.if-needed-blocks.false, c.data_needed-needed.ensures, c.blocks-2.ensures.count); holders = (rw c.in-Some.is at c.in_ok-blocks.ensures).0 }, all_data c.args.image.now c.args.file c.loop-i.blocks.items c.loop-i.i c.loop-i.invariant count)
