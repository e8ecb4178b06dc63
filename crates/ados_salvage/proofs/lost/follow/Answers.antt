use Rattle.ados_salvage.proofs.Common.{below_more, arith, place_below}
use Rattle.ados_salvage.proofs.Following.{long_kept, headers_kept}
use Rattle.ados_salvage.proofs.lost.follow.Goals as goal

pub loop-at-preserved : goal.loop-at-preserved
loop-at-preserved c =
    let more = c.in_ok-follow_long.ensures.more in
    record {
      more = (more.0, λ block some. more.1 block (c.loop-at.invariant.more.1 block some));
      headers = headers_kept c.args.known.now _ _ more.1 c.loop-at.invariant.headers;
      followed = below_more _ _ (λ at l. long_kept c.args.known.now _ _ more.1 c.args.block at (c.loop-at.invariant.followed at l)) c.in_ok-follow_long.ensures.followed;
    }

pub returns-clause-followed : goal.returns-clause-followed
returns-clause-followed c = λ accepted at dir named place.
    c.loop-at.invariant.followed at (omega (arith, place_below c.args.known.now.image dir c.args.block at place)) dir named place
