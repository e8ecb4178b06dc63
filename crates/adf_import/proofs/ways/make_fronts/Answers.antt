use Rattle.std.proofs.Common.{arith}
use Rattle.adf_import.proofs.Reaching.{made_all, made_begin, made_on, made_past, made_stops}
use Rattle.adf_import.proofs.ways.make_fronts.Goals.{then-path-at-eq47+in-Ok+else-prove, else-path-at-eq47}
use Rattle.adf_import.proofs.ways.make_fronts.Goals as goal

pub loop-at-init : goal.loop-at-init
loop-at-init c = made_begin c.args.moment c.args.path.now c.begin_of-begin.result c.root-root.result c.args.volume.now c.begin_of-begin.ensures c.root-root.ensures.key c.root-root.ensures.root

pub returns-in-Err : goal.returns-in-Err
returns-in-Err c =
    made_stops c.args.moment c.args.path.now c.loop-at.at c.loop-at.known c.args.volume.now c.loop-at.volume c.loop-at.invariant c.make_front.new.volume c.in-Err.error (omega arith)
    c.if-path-at-eq47.true c.in-Err.ensures.made

pub loop-at-preserved : goal.loop-at-preserved
loop-at-preserved c = elim c.if-path-at-eq47.branch [
  | then-path-at-eq47+in-Ok+else-prove w ↦
      rw (w.volume-is, w.known-is) (made_on c.args.moment c.args.path.now c.loop-at.at c.loop-at.known c.args.volume.now c.loop-at.volume c.loop-at.invariant w.make_front.new.volume w.in-Ok.next
      (omega arith) w.if-path-at-eq47.true w.in-Ok.ensures.made w.image.ensures.stands w.in-Ok.ensures.next)
  | else-path-at-eq47 w ↦
      rw (w.volume-is, w.known-is) (made_past c.args.moment c.args.path.now c.loop-at.at c.loop-at.known c.args.volume.now c.loop-at.volume c.loop-at.invariant (omega arith) w.if-path-at-eq47.false)
]

pub returns : goal.returns
returns c =
    made_all c.args.moment c.args.path.now c.loop-at.at c.loop-at.known c.args.volume.now c.loop-at.volume c.loop-at.invariant (omega (arith, c.loop-at-test.false))
