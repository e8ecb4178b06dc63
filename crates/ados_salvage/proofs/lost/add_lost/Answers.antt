use Rattle.std.proofs.Common.{below_more, arith}
use Rattle.ados_salvage.proofs.Following.{followed_kept, headers_kept, lost_met}
use Rattle.ados_salvage.proofs.lost.add_lost.Goals as goal

pub loop-block-preserved : goal.loop-block-preserved
loop-block-preserved c =
    let more = c.in_ok-follow.ensures.more in
    record {
      gathered = more.0;
      headers = headers_kept c.args.known.now _ _ more.1 c.loop-block.invariant.headers;
      followed = below_more _ _ (λ block l. followed_kept c.args.known.now _ _ more.1 block (c.loop-block.invariant.followed block l)) c.in_ok-follow.ensures.followed;
    }

pub returns-clause-lost : goal.returns-clause-lost
returns-clause-lost c = lost_met c.args.known.now _ (omega (arith, c.blocks-block-end.ensures.count, c.blocks-block-end.ensures.size)) (λ holder l. c.loop-block.invariant.followed holder (omega arith))
