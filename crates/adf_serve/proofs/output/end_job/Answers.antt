use Rattle.std.proofs.Common.{subst, sym}
use Rattle.adf_serve.specs.Commands.{DoesJob, Ending}
use Rattle.adf_serve.proofs.Printing.{job_done}
use Rattle.adf_serve.proofs.output.end_job.Goals as goal

pub returns-in-Ok : goal.returns-in-Ok
returns-in-Ok g c = λ styled old did.
    job_done styled c.args.job.now old _ c.in-Ok.field-0 (subst (λ (done : Ending). DoesJob styled c.args.job.now old (g.W.Write.contents c.args.writer.now) done) c.in-Ok.is did)

pub returns : goal.returns
returns g c = λ styled old did.
    let failed = subst (λ (done : Ending). DoesJob styled c.args.job.now old (g.W.Write.contents c.args.writer.now) done) c.in-Err.is did in
    (_, c.refuse-last.ensures styled c.args.job.now old (sym c.prints_json.ensures) failed, c.status.ensures)
