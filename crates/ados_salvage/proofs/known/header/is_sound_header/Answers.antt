use Rattle.ados_salvage.proofs.ByCensus.{first_holds, second_holds, sound_headers}
use Rattle.ados_salvage.proofs.known.header.is_sound_header.Goals as goal

pub returns-then-is_sound_as : goal.returns-then-is_sound_as
returns-then-is_sound_as c = first_holds c.if-is_sound_as.true c.is_sound_as.ensures (sound_headers c.args.image.now c.args.block c.blocks-2.ensures.image)

pub returns-else-is_sound_as : goal.returns-else-is_sound_as
returns-else-is_sound_as c =
    second_holds c.if-is_sound_as.false c.is_sound_as.ensures c.is_sound_as-else-is_sound_as.ensures (sound_headers c.args.image.now c.args.block c.blocks-2.ensures.image)
