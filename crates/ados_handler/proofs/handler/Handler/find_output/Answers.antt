use Rattle.std.proofs.Common.{refl, sym, ap, ◌∙◌, subst}
use Rattle.ados_handler.proofs.Common.{Stands, Shown, FindOutput, Session, HandlerState, child_is_key}
use Rattle.ados_handler.proofs.Meant.{refused_gives}
use Rattle.ados_handler.proofs.Placed.{place_refused}
use Rattle.ados_handler.proofs.Spotted.{output_empties, output_makes}
use Rattle.ados_handler.proofs.handler.Handler.find_output.Goals as goal

pub empty_file-requires : goal.empty_file-requires
empty_file-requires c t stands =
    let stood = subst (λ (v : Shown). Stands v.image t) c.child.ensures.same stands in
    child_is_key t stood.proper c.in-Ok.found.0 c.in-Ok.found.1 c.in-Some.key (sym (c.child.ensures.child t stood) ∙ c.in-Some.is)

pub returns-in-Err-clause-gives : goal.returns-in-Err-clause-gives
returns-in-Err-clause-gives c =
    let t = c.self.invariant.tree in
    let old = c.args.self.now in
    let stood = subst (λ (h : HandlerState). Stands h.image t) c.self.view_is c.self.invariant.stands in
    let alive = sym (ap (λ (h : HandlerState). h.session.died) c.self.view_is) ∙ c.if-self.false in
    let none = sym (c.placed.ensures.place t stood) ∙ c.in-Err.is in
    refused_gives old c.placed.new.self (FindOutput c.args.lock c.args.path.now) c.args.now c.refused-in-Err.result t c.in-Err.error stood c.placed.ensures.same
    (place_refused t old.session (FindOutput c.args.lock c.args.path.now) c.args.lock c.args.path.now c.in-Err.error _ refl alive none) c.refused-in-Err.ensures

pub returns-in-Some-clause-gives : goal.returns-in-Some-clause-gives
returns-in-Some-clause-gives c =
    let alive = sym (ap (λ (h : HandlerState). h.session.died) c.self.view_is) ∙ c.if-self.false in
    let session : Session = record { locks = c.self-2.inside.locks.held; handles = c.self-2.inside.handles.held; died = c.self-2.inside.died } in
    output_empties c.args.self.now c.args.lock c.args.path.now c.args.now c.in-Ok.found alive (λ t stood. sym (c.placed.ensures.place t stood) ∙ c.in-Ok.is) c.self-2.inside.volume c.child.new.self session _
    c.child.ensures.same (c.self-2.view_is ∙ c.placed.ensures.same) _ c.empty_file.result c.in-Some.key (λ t stands. sym (c.child.ensures.child t stands) ∙ c.in-Some.is) c.empty_file.ensures.opens

pub returns-in-None-clause-gives : goal.returns-in-None-clause-gives
returns-in-None-clause-gives c =
    let alive = sym (ap (λ (h : HandlerState). h.session.died) c.self.view_is) ∙ c.if-self.false in
    let session : Session = record { locks = c.self-2.inside.locks.held; handles = c.self-2.inside.handles.held; died = c.self-2.inside.died } in
    output_makes c.args.self.now c.args.lock c.args.path.now c.args.now c.in-Ok.found alive (λ t stood. sym (c.placed.ensures.place t stood) ∙ c.in-Ok.is) c.self-2.inside.volume c.child.new.self session _
    c.child.ensures.same (c.self-2.view_is ∙ c.placed.ensures.same) _ c.make_file.result (λ t stands. sym (c.child.ensures.child t stands) ∙ c.in-None.is) c.make_file.ensures.opens
