use Rattle.std.proofs.Common.{below_more, arith}
use Rattle.ados_salvage.proofs.Heading.{finds_on, long_sought}
use Rattle.ados_salvage.proofs.Naming.{place_below}
use Rattle.ados_salvage.proofs.known.headers.Found.follow.Goals as goal

pub loop-at-preserved : goal.loop-at-preserved
loop-at-preserved c =
    let more = c.in_ok-follow_long.ensures.more in
    record {
      more = finds_on c.args.left_out.now c.args.image.now _ _ _ c.loop-at.invariant.more more;
      sought = below_more _ _ (λ at l. long_sought c.args.left_out.now c.args.image.now _ _ more c.args.block at (c.loop-at.invariant.sought at l)) c.in_ok-follow_long.ensures.sought;
    }

pub returns-clause-sought : goal.returns-clause-sought
returns-clause-sought c = λ at named place. c.loop-at.invariant.sought at (omega (arith, place_below c.args.image.now _ c.args.block at place)) named place
