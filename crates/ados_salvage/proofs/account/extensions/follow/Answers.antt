use Rattle.std.proofs.Common.{arith}
use Rattle.ados_census.proofs.Marking.{fewer_unmarked}
use Rattle.ados_salvage.proofs.Walking.{walk_adds, walk_goes_on}
use Rattle.ados_salvage.proofs.account.extensions.follow.Goals as goal

pub loop-next-smaller : goal.loop-next-smaller
loop-next-smaller c = fewer_unmarked c.loop-next.marks.items c.in-Some.next (omega (arith, c.in-Some.ensures.next.inside.1, c.loop-next.invariant.size)) c.in-Some.ensures.free

pub loop-next-preserved : goal.loop-next-preserved
loop-next-preserved c = walk_goes_on c.args.image.now c.args.file c.requires.inside c.args.marks.now.items c.loop-next.marks.items c.loop-next.holder c.loop-next.invariant c.in-Some.next c.in-Some.ensures

pub returns-clause-added : goal.returns-clause-added
returns-clause-added c =
    walk_adds c.args.image.now c.args.file c.requires.inside c.args.marks.now.items c.loop-next.marks.items c.loop-next.holder c.loop-next.invariant c.in_default.ensures c.requires.closed.size
