use Rattle.ados_model.proofs.Nodes.{some_in}
use Rattle.ados_change.proofs.Cases.{dated_stands}
use Rattle.ados_change.proofs.node.touch.Goals as goal

pub returns-clause-stands : goal.returns-clause-stands
returns-clause-stands c = λ t s.
    let n = some_in (t.nodes c.args.key) (c.requires.key t s) in
    dated_stands c.args.image.now c.settle_date.new.image t s c.args.key n.0 n.1 (c.settle_date.ensures.sum (s.nodes c.args.key n.0 n.1).sum) c.args.date c.settle_date.ensures.rest c.settle_date.ensures.date
