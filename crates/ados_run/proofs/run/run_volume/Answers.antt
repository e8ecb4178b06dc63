use Rattle.std.proofs.Common.{ap, ◌∙◌, subst, sym}
use Rattle.adf_block.specs.Whole.{IsImage}
use Rattle.ados_handler.specs.HandlerState.{HandlerState}
use Rattle.ados_run.proofs.Runs.{accepted_by, keeps_volume}
use Rattle.ados_run.proofs.Weaker.{meant_run}
use Rattle.ados_run.proofs.run.run_volume.Goals as goal

pub returns-in-Ok-run : goal.returns-in-Ok-run
returns-in-Ok-run c =
    let kept = keeps_volume c.args.image c.args.clients c.args.steps.items c.in-Ok-run.done.outcomes.items c.in-Ok-run.done.exchange.port
    c.new-handler.result (accepted_by c.args.image c.in_ok-volume.volume.image c.in_ok-volume.volume.was_validated c.new-handler.result c.new-handler.ensures.image c.new-handler.ensures.validated c.in_ok-volume.ensures)
    (subst IsImage (c.image.ensures.same ∙ sym c.new-handler.ensures.image) c.blocks-2.ensures.image) c.new-handler.ensures.session
    c.in-Ok.exchange.port c.in-Ok.ensures c.in-Ok-run.ensures.history in
    (meant_run c.args.image c.args.clients c.args.steps.items c.in-Ok-run.done.outcomes.items c.in-Ok-run.done.exchange.port kept, kept)

pub returns-in-Err-run : goal.returns-in-Err-run
returns-in-Err-run c =
    let same = ap (λ (s : HandlerState). s.image) (c.into_server.ensures ∙ ap (λ e. e.port.server) c.in-Err-run.ensures.history.0 ∙ ap (λ p. p.server) c.in-Ok.ensures) ∙ c.new-handler.ensures.image in
    rw (c.no_memory-in-Err-run.ensures, same) (c.in_ok-volume.volume.was_validated, c.in_ok-volume.ensures)

pub returns-in-Err : goal.returns-in-Err
returns-in-Err c =
    let same = ap (λ (s : HandlerState). s.image) c.in-Err.ensures ∙ c.new-handler.ensures.image in
    rw (c.no_memory.ensures, same) (c.in_ok-volume.volume.was_validated, c.in_ok-volume.ensures)
