use borrow.Author.Rules.{rules}
use Rattle.std.proofs.Common.{sym, subst}
use Rattle.adf_archive.proofs.Common.{GivesFrom}
use Rattle.adf_archive.proofs.Gathered.{gives_next, gives_none}
use Rattle.adf_archive.proofs.parallel.reports_in_turn.Goals as goal

pub loop-i-init : goal.loop-i-init
loop-i-init g c = subst (GivesFrom g.C.Fn c.args.report.now c.args.start 0) (sym c.in_ok-reports.ensures.items) (gives_none g.C.Fn c.args.report.now c.args.start)

pub loop-i-preserved : goal.loop-i-preserved
loop-i-preserved g c =
    subst (GivesFrom g.C.Fn c.args.report.now c.args.start _) (sym c.in_ok-push.ensures.items)
    (gives_next g.C.Fn c.args.report.now c.args.start c.loop-i.i _ c.report.result c.loop-i.invariant (search rules))
