use Rattle.ados_salvage.proofs.OwnBlocks.{before_inside, holder_inside, holder_next}
use Rattle.std.proofs.Common.{arith}
use Rattle.ados_salvage.proofs.account.accounted.holder_of.Goals as goal

pub long-requires-clause-block : goal.long-requires-clause-block
long-requires-clause-block c = before_inside c.args.image.now c.args.file c.requires.readable c.args.i c.requires.within c.args.before c.requires.before

pub returns-then-i-eq0-clause-inside : goal.returns-then-i-eq0-clause-inside
returns-then-i-eq0-clause-inside c =
    holder_inside c.args.image.now c.args.file c.requires.readable c.args.i c.requires.within c.long.result
    (holder_next c.args.image.now c.args.file c.args.i c.args.before c.long.result (omega (arith, c.if-i-gt0.true)) (omega (arith, c.if-i-eq0.true)) c.requires.before c.long.ensures)

pub returns-else-i-gt0-clause-inside : goal.returns-else-i-gt0-clause-inside
returns-else-i-gt0-clause-inside c = before_inside c.args.image.now c.args.file c.requires.readable c.args.i c.requires.within c.args.before c.requires.before
