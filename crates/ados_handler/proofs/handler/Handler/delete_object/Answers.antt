use Rattle.std.proofs.Common.{◌≡◌, pos, false, None, sym, ap, ◌∙◌, subst, refl, rules}
use Rattle.ados_handler.proofs.Common.{Stands, error_number, DeleteObject, Results, Empty, is_held, HandlerState, can_remove, none_refuses, remove_refusal, remove_refusals}
use Rattle.ados_handler.proofs.Meant.{edit_gives, refused_gives, sound_on}
use Rattle.ados_handler.proofs.Deleting.{delete_edits, delete_refusal}
use Rattle.ados_handler.proofs.Unlisting.{delete_keeps}
use Rattle.ados_handler.proofs.handler.Handler.delete_object.Goals as goal

pub remove-requires : goal.remove-requires
remove-requires c = λ t s.
    let between = subst (λ (h : HandlerState). Stands h.image t) c.self-2.view_is s in
    let there = c.in-Ok.ensures.key t (subst (λ (h : HandlerState). Stands h.image t) c.walked.ensures.same between) in
    let none : c.remove_refusal.result ≡ None = c.in_default.is in
    can_remove t s.proper c.in-Ok.key there (is_held c.walked.new.self.session c.in-Ok.key) false (none_refuses (remove_refusals t c.walked.new.self.session c.in-Ok.key) (sym (c.remove_refusal.ensures t between) ∙ none))

pub returns-in-Some-clause-gives : goal.returns-in-Some-clause-gives
returns-in-Some-clause-gives c =
    let t = c.self.invariant.tree in
    let old = c.args.self.now in
    let stood : Stands old.image t = subst (λ (h : HandlerState). Stands h.image t) c.self.view_is c.self.invariant.stands in
    let alive = sym (ap (λ (h : HandlerState). h.session.died) c.self.view_is) ∙ c.if-self.false in
    let first = c.walked.ensures.same in
    let walk = sym (c.walked.ensures.walk t stood) ∙ c.in-Ok.is in
    let between : Stands c.walked.new.self.image t = subst (λ (h : HandlerState). Stands h.image t) (sym first) stood in
    let against = ap (λ (h : HandlerState). remove_refusal t h.session c.in-Ok.key) (sym first) ∙ sym (c.remove_refusal.ensures t between) ∙ c.in-Some.is in
    let told : ◌≡◌ {A = Results} c.refused-in-Some.result (record { res1 = pos 0; res2 = pos (error_number c.in-Some.error); body = Empty }) = search rules in
    refused_gives old c.walked.new.self (DeleteObject c.args.lock c.args.path.now) c.args.now c.refused-in-Some.result t c.in-Some.error stood first
    (delete_refusal t old.session c.args.lock c.args.path.now c.in-Ok.key alive walk ∙ against) told

pub returns-clause-gives : goal.returns-clause-gives
returns-clause-gives c =
    let same = c.self-2.view_is ∙ c.walked.ensures.same in
    let t = c.self-2.invariant.tree in
    let s = c.args.self.now.session in
    let opened = c.self-2.invariant.stands in
    let stood = subst (λ (h : HandlerState). Stands h.image t) same opened in
    let between = subst (λ (h : HandlerState). Stands h.image t) c.self-2.view_is opened in
    let alive = sym (ap (λ (h : HandlerState). h.session.died) c.self.view_is) ∙ c.if-self.false in
    let none : c.remove_refusal.result ≡ None = c.in_default.is in
    let free = ap (λ (h : HandlerState). remove_refusal t h.session c.in-Ok.key) (sym c.walked.ensures.same) ∙ sym (c.remove_refusal.ensures t between) ∙ none in
    let edit = delete_edits t s c.args.lock c.args.path.now c.in-Ok.key alive (sym (c.walked.ensures.walk t stood) ∙ c.in-Ok.is) c.args.now free in
    edit_gives c.args.self.now _ same edit refl opened c.remove.new.self (c.remove.ensures.stands t opened) c.remove.ensures.keeps c.remove.ensures.validated c.done.result c.done.ensures

pub invariant_of-self : goal.invariant_of-self
invariant_of-self c = sound_on (c.self-2.view_is ∙ c.walked.ensures.same) (returns-clause-gives c) (delete_keeps c.args.lock c.args.path.now) c.self-2.invariant
