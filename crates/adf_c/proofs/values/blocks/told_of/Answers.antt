use Rattle.adf_c.proofs.Owning.{all_tell}
use Rattle.adf_c.proofs.values.blocks.told_of.Goals as goal

pub returns : goal.returns
returns c = all_tell c.for_c.result (λ told. told.items) c.args.salvage.now c.in_ok-blocks.blocks.items _ c.in_ok-blocks.ensures c.deref.ensures.value c.for_c.ensures
