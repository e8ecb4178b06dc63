use Rattle.std.proofs.Common.{subst, arith}
use Rattle.ados_data.proofs.Common.{IsSize}
use Rattle.cases.proofs.SpoiledHeader.{spoiled}
use Rattle.cases.proofs.files.spoil.Goals as goal

pub long-sum-requires-clause-block : goal.long-sum-requires-clause-block
long-sum-requires-clause-block c = (c.requires.lawful.places.headers_inside 0 (omega arith)).1

pub set_long-requires-clause-block : goal.set_long-requires-clause-block
set_long-requires-clause-block c = (c.requires.lawful.places.headers_inside 0 (omega arith)).1

pub returns : goal.returns
returns c = spoiled c.args.image.now c.set_long.new.self c.args.file c.requires (subst IsSize c.blocks-2.ensures.count c.blocks-2.ensures.size) c.set_long.ensures.rest
