use Rattle.std.proofs.Common.{◌∙◌, arith}
use Rattle.adf_rescue.proofs.Running.{bytes_all, bytes_more, bytes_none}
use Rattle.adf_rescue.proofs.block_runs.run_bytes.Goals as goal

pub loop-block-init : goal.loop-block-init
loop-block-init c = record { begun = omega arith; few = omega arith; bytes = c.new-bytes.ensures.items ∙ bytes_none c.args.image.now c.args.run.first }

pub loop-block-preserved : goal.loop-block-preserved
loop-block-preserved c = record {
  begun = omega (arith, c.loop-block.invariant.begun);
  few = omega (arith, c.loop-block.invariant.begun, c.loop-block-test.true);
  bytes =
      bytes_more c.args.image.now c.args.run.first c.loop-block.block c.loop-block.invariant.begun c.loop-block.bytes.items c.loop-block.invariant.bytes
      c.block.result.now c.block.ensures.bytes c.extend_from_slice.new.self.items c.in_ok-extend_from_slice.ensures.items;
}

pub returns : goal.returns
returns c = λ inside. bytes_all c.args.image.now c.args.run c.loop-block.block c.loop-block.bytes.items (omega (arith, c.loop-block-test.false, c.loop-block.invariant.few)) c.loop-block.invariant.bytes
