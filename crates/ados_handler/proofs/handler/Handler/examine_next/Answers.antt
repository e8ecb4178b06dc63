use Rattle.std.proofs.Common.{sym, ap, ◌∙◌, subst}
use Rattle.ados_handler.proofs.Common.{is_some, Stands, ExamineNext, HandlerState, MethodMeans}
use Rattle.ados_handler.proofs.Meant.{stays_gives}
use Rattle.ados_volume.proofs.Listed.{next_node}
use Rattle.ados_handler.proofs.NextEntry.{next_means}
use Rattle.ados_handler.proofs.handler.Handler.examine_next.Goals as goal

pub examine-requires : goal.examine-requires
examine-requires c = λ t stands.
    let stood = subst (λ (h : HandlerState). Stands h.image t) (c.self-2.view_is ∙ c.entry_after.ensures.same) stands in
    ap is_some (next_node t stands.proper c.in-Some.dir c.args.key c.in-Entry.next (sym (c.entry_after.ensures.next t stood) ∙ c.in-Entry.is)).1

pub returns-clause-gives : goal.returns-clause-gives
returns-clause-gives c =
    let same = c.entry_after.ensures.same in
    let t = c.self-2.invariant.tree in
    let stands = c.self-2.invariant.stands in
    let now_stands = subst (λ (h : HandlerState). Stands h.image t) c.self-2.view_is stands in
    let stood = subst (λ (h : HandlerState). Stands h.image t) same now_stands in
    let opened = subst (λ (h : HandlerState). Stands h.image t) (sym c.self.view_is) stood in
    let alive = sym (ap (λ (h : HandlerState). h.session.died) c.self.view_is) ∙ c.if-self.false in
    let first = sym (c.entry_after.ensures.next t stood) ∙ c.in-Entry.is in
    let found = next_node t stands.proper c.in-Some.dir c.args.key c.in-Entry.next first in
    λ now. stays_gives c.args.self.now c.entry_after.new.self (ExamineNext c.args.lock c.args.key) now c.done.result t stood (ap (λ (h : HandlerState). h.image) same) (ap (λ (h : HandlerState). h.was_validated) same)
    (subst (λ (h : HandlerState). MethodMeans c.args.self.now.places t c.args.self.now.session (ExamineNext c.args.lock c.args.key) now t h.session c.done.result) (sym same)
    (next_means t c.args.self.now.session c.args.lock c.in-Some.dir c.args.key alive (sym (c.in-Some.ensures.object t stood)) (sym (c.if-is_file.ensures.file t opened))
    c.args.self.now.places c.in-Entry.next found.0 c.examine.result now c.done.result first found.1 (c.examine.ensures t found.0 stands found.1) c.done.ensures))
