use Rattle.std.proofs.Common.{sym, subst}
use Rattle.ados_handler.specs.HandlerState.{HandlerState}
use Rattle.adf_serve.specs.Asked.{AnswersDisk}
use Rattle.adf_serve.proofs.Asked.{asked_disk}
use Rattle.adf_serve.proofs.info.ask_disk.Goals as goal

pub returns-in-Some : goal.returns-in-Some
returns-in-Some c =
    subst (λ (h : HandlerState). AnswersDisk c.args.image c.in-Some.answer h.image) (sym c.into_server.ensures)
    (asked_disk c.args.image c.in-Ok.steps.items c.in-Ok-run_volume.done.outcomes.items c.in-Ok-run_volume.done.exchange.port c.in-Ok.ensures.items c.in-Ok-run_volume.ensures.1 c.in-Some.answer c.in-Some.ensures)
