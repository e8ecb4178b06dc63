use Rattle.std.proofs.Common.{arith}
use Rattle.std.proofs.lemmas.Result.{IfOk-at_ok}
use Rattle.adf_archive.proofs.Common.{GivesFrom}
use Rattle.adf_archive.proofs.Gathered.{gives_both}
use Rattle.adf_archive.proofs.parallel.+shares.Goals as goal

pub returns : goal.returns
returns g t c =
    gives_both g.C.Fn c.args.report.now c.args.start _ _ c.args.count _ _ _ (omega arith) c.in_ok-append.ensures.items
    (IfOk-at_ok (λ v. GivesFrom g.C.Fn c.args.report.now _ _ v.items) c.in_ok-reports.was c.join-first.ensures.first)
    (IfOk-at_ok (λ v. GivesFrom g.C.Fn c.args.report.now _ _ v.items) c.in_ok-second.was c.join-first.ensures.second)
