use Rattle.adf_rescue.proofs.Asking.{passed_on}
use Rattle.adf_rescue.proofs.undeleting.undelete_entries.Goals as goal

pub returns-in_err-undeletion-clause-fault : goal.returns-in_err-undeletion-clause-fault
returns-in_err-undeletion-clause-fault g c =
    passed_on c.args.image c.in_err-undeletion.field-0.0 _ c.in_err-undeletion.ensures.fault c.from_residual-in_err-undeletion.ensures.1

pub returns-then-job-clause-done : goal.returns-then-job-clause-done
returns-then-job-clause-done g c = let f = c.in_ok-found.ensures in c.in_ok-undeletion.ensures.done c.args.image f.0 f.1 f.2 f.3

pub returns-in-Ok-clause-done : goal.returns-in-Ok-clause-done
returns-in-Ok-clause-done g c = let f = c.in_ok-found.ensures in c.in_ok-undeletion.ensures.done c.args.image f.0 f.1 f.2 f.3
