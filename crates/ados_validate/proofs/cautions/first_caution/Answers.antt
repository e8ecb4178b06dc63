use Rattle.ados_validate.proofs.NoCaution.{first_of}
use Rattle.ados_validate.proofs.Widened.{validated_has_pages}
use Rattle.ados_validate.proofs.cautions.first_caution.Goals as goal

pub page_caution-requires-clause-same : goal.page_caution-requires-clause-same
page_caution-requires-clause-same c = (validated_has_pages c.args.old.now c.args.new.now c.requires).2

pub returns-in-None : goal.returns-in-None
returns-in-None c = first_of c.args.old.now c.args.new.now c.requires c.in-None.ensures c.lost_header.result c.lost_header.ensures
