use Rattle.ados_data.proofs.Places.{placed}
use Rattle.ados_data.proofs.place.pointer_block.Goals as goal

pub loop-passed-init : goal.loop-passed-init
loop-passed-init c =
    placed c.args.image.now c.args.file c.start_of-start.result (c.start_of-start.ensures.place c.args.image.now c.requires.near)
