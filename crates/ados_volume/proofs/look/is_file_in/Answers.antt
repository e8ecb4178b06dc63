use Rattle.ados_volume.proofs.Looking.{is_file_is}
use Rattle.ados_volume.proofs.look.is_file_in.Goals as goal

pub returns : goal.returns
returns c = λ t s. is_file_is c.args.image.now t s c.args.key c.long.result (c.requires.key t s) c.long.ensures
