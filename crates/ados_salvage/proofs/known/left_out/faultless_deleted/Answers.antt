use Rattle.ados_salvage.proofs.Trusting.{none_lists_all}
use Rattle.ados_salvage.proofs.known.left_out.faultless_deleted.Goals as goal

pub is_trusted-requires-clause-all : goal.is_trusted-requires-clause-all
is_trusted-requires-clause-all c = none_lists_all c.args.image.now c.requires
