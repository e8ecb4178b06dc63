use Rattle.std.proofs.Common.{◌≢◌, ℕ, List, rules, refl, sym, ap, ◌∙◌, subst}
use Rattle.ados_handler.proofs.Common.{IsComment, root, Stands, with_comment, SetComment, HandlerState}
use Rattle.ados_handler.proofs.Meant.{edit_gives, set_comment_edits, sound_on, stays_gives}
use Rattle.ados_handler.proofs.Telling.{set_comment_keeps}
use Rattle.ados_handler.proofs.handler.Handler.set_comment.Goals as goal

pub returns-in-Err-new-clause-gives : goal.returns-in-Err-new-clause-gives
returns-in-Err-new-clause-gives c =
    let stood = subst (λ (h : HandlerState). Stands h.image c.self.invariant.tree) c.self.view_is c.self.invariant.stands in
    stays_gives c.args.self.now _ (SetComment c.args.lock c.args.path.now c.args.comment.now) c.args.now c.refused-in-Err-new.result c.self.invariant.tree stood
    (ap (λ (h : HandlerState). h.image) c.walked.ensures.same) (ap (λ (h : HandlerState). h.was_validated) c.walked.ensures.same) (search rules)

pub returns-clause-gives : goal.returns-clause-gives
returns-clause-gives c =
    let same = c.self-2.view_is ∙ c.walked.ensures.same in
    let t = c.self-2.invariant.tree in
    let opened = c.self-2.invariant.stands in
    let stood = subst (λ (h : HandlerState). Stands h.image t) same opened in
    let alive = sym (ap (λ (h : HandlerState). h.session.died) c.self.view_is) ∙ c.if-self.false in
    let other : c.in-Ok.key ≢ root t = λ e. c.if-key-root.false (e ∙ sym (c.root.ensures.root t opened)) in
    let is = subst IsComment c.bytes.ensures.value ((c.in-Ok-new.ensures.valid).0 refl) in
    let text = c.in-Ok-new.ensures.ok ∙ c.bytes.ensures.value in
    let stands = subst (λ (x : List ℕ). Stands c.set_comment.new.self.image (with_comment c.args.now c.in-Ok.key x t)) text (c.set_comment.ensures.stands t opened) in
    let edit = set_comment_edits t c.args.self.now.session c.args.lock c.args.path.now c.args.now c.in-Ok.key alive (sym (c.walked.ensures.walk t stood) ∙ c.in-Ok.is) other c.args.comment.now is in
    edit_gives c.args.self.now _ same edit refl opened c.set_comment.new.self stands c.set_comment.ensures.keeps c.set_comment.ensures.validated c.done.result c.done.ensures

pub invariant_of-self : goal.invariant_of-self
invariant_of-self c = sound_on (c.self-2.view_is ∙ c.walked.ensures.same) (returns-clause-gives c) (set_comment_keeps c.args.lock c.args.path.now c.args.comment.now c.bytes.ensures.valid) c.self-2.invariant
