use Rattle.std.proofs.Common.{sym, ap, ◌∙◌, map, refl}
use Rattle.std.proofs.lemmas.Result.{IfOk-weaker}
use mathlib.Core.List.{map-map}
use Rattle.ados_run.specs.ServesVolume.{handler_over}
use Rattle.ados_run.proofs.Serving.{keeps_served}
use Rattle.ados_run.proofs.Weaker.{meant_scripts}
use Rattle.ados_run.proofs.serve.serve_volume.Goals as goal

pub returns : goal.returns
returns g c =
    let done = c.in_ok-done.done in
    let image = c.args.volume.image in
    let was_validated = c.args.volume.was_validated in
    IfOk-weaker c.gather_done.result _ _
    (λ served gathered.
    let left = gathered.0 in
    let kept = keeps_served (λ x. x.0) (λ x. x.1.items) (λ d. d.client) (λ d. (d.text.items, d.end))
    image was_validated c.args.moment (handler_over image was_validated) c.in_ok-handler.handler done.handler c.in_ok-done.ensures.handler.0
    c.in_ok-handler.clients.items done.clients.items (map (λ s. s.0.items) c.args.scripts.items) (map (λ d. d.client) done.clients.items) (map (λ t. (t.0.items, t.1)) served.texts.items)
    left.untaken left.unanswered served.handler
    c.image.ensures.stands refl c.in_ok-handler.ensures.handler c.in_ok-done.ensures.handler.1
    (ap (λ l. map (λ s. s.0.items) l) (sym c.in_ok-handler.ensures.scripts) ∙ map-map (λ s. s.0.items) (λ x. (x.1, x.2)) c.in_ok-handler.clients.items)
    refl
    (ap (λ l. map (λ t. (t.0.items, t.1)) l) gathered.1 ∙ map-map (λ t. (t.0.items, t.1)) (λ d. (d.text, d.end)) done.clients.items)
    c.in_ok-done.ensures.clients c.in_ok-done.ensures.all left.as_many left.lawful left.closed in
    (meant_scripts image was_validated (map (λ s. s.0.items) c.args.scripts.items) c.args.moment (map (λ t. (t.0.items, t.1)) served.texts.items) served.handler kept, kept))
    c.gather_done.ensures
