use Rattle.ados_data.proofs.Places.{readable}
use Rattle.cases.proofs.files.size_of.Goals as goal

pub read_at-size-requires : goal.read_at-size-requires
read_at-size-requires c = readable c.args.image.now c.args.file c.requires
