use Rattle.ados_data.proofs.Places.{readable}
use Rattle.cases.proofs.files.reads.Goals as goal

pub read_at-requires : goal.read_at-requires
read_at-requires c = readable c.args.image.now c.args.file c.requires
