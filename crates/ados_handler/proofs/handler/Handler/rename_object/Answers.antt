use Rattle.std.proofs.Common.{◌≡◌, pos, None, rules, sym, ap, ◌∙◌, subst, refl}
use Rattle.ados_handler.proofs.Common.{IsName, Stands, error_number, RenameObject, Results, Empty, HandlerState, is_held_exclusively, none_refuses, move_refusal, move_refusals}
use Rattle.ados_volume.proofs.Refusing.{can_move}
use Rattle.ados_handler.proofs.Unlisting.{rename_keeps}
use Rattle.ados_handler.proofs.Meant.{edit_gives, refused_gives, sound_on}
use Rattle.ados_handler.proofs.Moving.{move_refused, rename_object_edits, source_refused}
use Rattle.ados_handler.proofs.handler.Handler.rename_object.Goals as goal

pub returns-in-Err-clause-gives : goal.returns-in-Err-clause-gives
returns-in-Err-clause-gives c =
    let t = c.self.invariant.tree in
    let old = c.args.self.now in
    let stood : Stands old.image t = subst (λ (h : HandlerState). Stands h.image t) c.self.view_is c.self.invariant.stands in
    let alive = sym (ap (λ (h : HandlerState). h.session.died) c.self.view_is) ∙ c.if-self.false in
    let none = sym (c.source_and_place.ensures.found t stood) ∙ c.in-Err.is in
    let told : ◌≡◌ {A = Results} c.refused-in-Err.result (record { res1 = pos 0; res2 = pos (error_number c.in-Err.error); body = Empty }) = search rules in
    refused_gives old c.source_and_place.new.self (RenameObject c.args.from_lock c.args.from.now c.args.to_lock c.args.to.now) c.args.now c.refused-in-Err.result t c.in-Err.error stood c.source_and_place.ensures.same
    (source_refused t old.session c.args.from_lock c.args.from.now c.args.to_lock c.args.to.now alive c.in-Err.error none) told

pub returns-in-Some-clause-gives : goal.returns-in-Some-clause-gives
returns-in-Some-clause-gives c =
    let t = c.self.invariant.tree in
    let old = c.args.self.now in
    let stood : Stands old.image t = subst (λ (h : HandlerState). Stands h.image t) c.self.view_is c.self.invariant.stands in
    let alive = sym (ap (λ (h : HandlerState). h.session.died) c.self.view_is) ∙ c.if-self.false in
    let first = c.source_and_place.ensures.same in
    let found = sym (c.source_and_place.ensures.found t stood) ∙ c.in-Ok.is in
    let between : Stands c.source_and_place.new.self.image t = subst (λ (h : HandlerState). Stands h.image t) (sym first) stood in
    let against = ap (λ (h : HandlerState). move_refusal t h.session c.in-Ok.found.0 c.in-Ok.found.1.0 c.in-Ok.found.1.1) (sym first) ∙ sym (c.move_refusal.ensures.refusal t between) ∙ c.in-Some.is in
    let told : ◌≡◌ {A = Results} c.refused-in-Some.result (record { res1 = pos 0; res2 = pos (error_number c.in-Some.error); body = Empty }) = search rules in
    refused_gives old c.move_refusal.new.self (RenameObject c.args.from_lock c.args.from.now c.args.to_lock c.args.to.now) c.args.now c.refused-in-Some.result t c.in-Some.error stood (c.move_refusal.ensures.same ∙ first)
    (move_refused t old.session c.args.from_lock c.args.from.now c.args.to_lock c.args.to.now alive c.in-Ok.found.0 c.in-Ok.found.1 found c.in-Some.error against) told

pub rename-requires : goal.rename-requires
rename-requires c = λ t stands.
    let same = c.self-2.view_is ∙ c.move_refusal.ensures.same ∙ c.source_and_place.ensures.same in
    let between : Stands c.source_and_place.new.self.image t = subst (λ (h : HandlerState). Stands h.image t) (c.self-2.view_is ∙ c.move_refusal.ensures.same) stands in
    let valid : IsName c.in-Ok.found.1.1 = search rules in
    let none : c.move_refusal.result ≡ None = c.in_default.is in
    let stood = subst (λ (h : HandlerState). Stands h.image t) same stands in
    can_move t stands.proper c.in-Ok.found.0 (c.in-Ok.ensures.key t stood) (is_held_exclusively c.source_and_place.new.self.session c.in-Ok.found.0) c.in-Ok.found.1.0 c.in-Ok.found.1.1
    (c.in-Ok.ensures.directory t stood) valid (none_refuses (move_refusals t c.source_and_place.new.self.session c.in-Ok.found.0 c.in-Ok.found.1.0 c.in-Ok.found.1.1) (sym (c.move_refusal.ensures.refusal t between) ∙ none))

pub returns-clause-gives : goal.returns-clause-gives
returns-clause-gives c =
    let first = c.source_and_place.ensures.same in
    let same = c.self-2.view_is ∙ c.move_refusal.ensures.same ∙ first in
    let t = c.self-2.invariant.tree in
    let s = c.args.self.now.session in
    let opened = c.self-2.invariant.stands in
    let stood = subst (λ (h : HandlerState). Stands h.image t) same opened in
    let between = subst (λ (h : HandlerState). Stands h.image t) (c.self-2.view_is ∙ c.move_refusal.ensures.same) opened in
    let alive = sym (ap (λ (h : HandlerState). h.session.died) c.self.view_is) ∙ c.if-self.false in
    let found = sym (c.source_and_place.ensures.found t stood) ∙ c.in-Ok.is in
    let none : c.move_refusal.result ≡ None = c.in_default.is in
    let free = ap (λ (h : HandlerState). move_refusal t h.session c.in-Ok.found.0 c.in-Ok.found.1.0 c.in-Ok.found.1.1) (sym first) ∙ sym (c.move_refusal.ensures.refusal t between) ∙ none in
    let edit = rename_object_edits t s c.args.from_lock c.args.from.now c.args.to_lock c.args.to.now alive c.in-Ok.found.0 c.in-Ok.found.1 found c.args.now free in
    edit_gives c.args.self.now _ same edit refl opened c.rename.new.self (c.rename.ensures.stands t opened) c.rename.ensures.keeps c.rename.ensures.validated c.done.result c.done.ensures

pub invariant_of-self : goal.invariant_of-self
invariant_of-self c =
    sound_on (c.self-2.view_is ∙ c.move_refusal.ensures.same ∙ c.source_and_place.ensures.same) (returns-clause-gives c)
    (rename_keeps c.args.from_lock c.args.from.now c.args.to_lock c.args.to.now c.bytes.ensures.valid) c.self-2.invariant
