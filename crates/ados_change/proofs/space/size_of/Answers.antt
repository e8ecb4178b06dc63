use Rattle.ados_change.proofs.Common.{◌∙◌}
use Rattle.ados_change.proofs.Renewed.{file_inside, size_field}
use Rattle.ados_change.proofs.space.size_of.Goals as goal

pub long-requires-clause-block : goal.long-requires-clause-block
long-requires-clause-block c = file_inside c.args.image.now c.args.file c.requires.tree c.requires.file

pub returns : goal.returns
returns c = λ t s. c.long.ensures ∙ size_field c.args.image.now t s c.args.file c.requires.file
