use Rattle.std.proofs.Common.{sym, ap, ◌∙◌}
use Rattle.ados_handler.specs.HandlerState.{HandlerState}
use Rattle.ados_handler.proofs.Opening.{input_gives}
use Rattle.ados_handler.proofs.handler.Handler.find_input.Goals as goal

pub returns-in-Ok-clause-gives : goal.returns-in-Ok-clause-gives
returns-in-Ok-clause-gives c =
    let alive = sym (ap (λ (h : HandlerState). h.session.died) c.self.view_is) ∙ c.if-self.false in
    λ now. input_gives c.args.self.now c.args.lock c.args.path.now c.in-Ok.key alive c.walked.new.self _ _ now (λ t stood. sym (c.walked.ensures.walk t stood) ∙ c.in-Ok.is)
    c.walked.ensures.same c.open_file.ensures.opens c.open_file.ensures.image
