use Rattle.std.proofs.Common.{◌≢◌, refl, sym, ap, ◌∙◌, subst}
use Rattle.ados_handler.proofs.Common.{root, Stands, HandlerState}
use Rattle.ados_handler.proofs.Meant.{edit_gives, set_date_edits, sound_on}
use Rattle.ados_handler.proofs.Telling.{set_date_keeps}
use Rattle.ados_handler.proofs.handler.Handler.set_date.Goals as goal

pub returns-clause-gives : goal.returns-clause-gives
returns-clause-gives c =
    let same = c.self-2.view_is ∙ c.walked.ensures.same in
    let t = c.self-2.invariant.tree in
    let opened = c.self-2.invariant.stands in
    let stood = subst (λ (h : HandlerState). Stands h.image t) same opened in
    let alive = sym (ap (λ (h : HandlerState). h.session.died) c.self.view_is) ∙ c.if-self.false in
    let other : c.in-Ok.key ≢ root t = λ e. c.if-key-root.false (e ∙ sym (c.root.ensures.root t opened)) in
    let edit = set_date_edits t c.args.self.now.session c.args.lock c.args.path.now c.args.now c.in-Ok.key alive (sym (c.walked.ensures.walk t stood) ∙ c.in-Ok.is) other c.args.date in
    edit_gives c.args.self.now _ same edit refl opened c.set_date.new.self (c.set_date.ensures.stands t opened) c.set_date.ensures.keeps c.set_date.ensures.validated c.done.result c.done.ensures

pub invariant_of-self : goal.invariant_of-self
invariant_of-self c = sound_on (c.self-2.view_is ∙ c.walked.ensures.same) (returns-clause-gives c) (set_date_keeps c.args.lock c.args.path.now c.args.date) c.self-2.invariant
