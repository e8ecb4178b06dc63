use Rattle.std.proofs.Common.{◌∙◌, ◌++◌, ◌∷◌, [], arith, ap, inl, inr, sym, subst, ℕ, ◌+◌, ◌≤◌, length-append, refl, rules}
use Rattle.ados_port.specs.Rings.{EachOffersFirst}
use Rattle.ados_port.specs.steps.Sending.{EachHasRoom}
use Rattle.ados_port.specs.Ends.{Serves}
use Rattle.ados_port.specs.History.{Serving}
use Rattle.ados_port.proofs.Eachs.{each_offers_room, first_sends, has_room_less, offers_first, room_step, sends_one}
use Rattle.ados_port.proofs.Handling.{agree_none, agree_step, only_outlets, serves_more, serves_nothing, serves_offers, serves_one}
use Rattle.ados_port.proofs.Takes.{FoundEach, found_more, found_none, takes_nothing, takes_some}
use Rattle.ados_port.specs.steps.Views.{handler_view}
use Rattle.ados_port.proofs.handler.HandlerEnd.serve_batch.Goals.{else-loop-test, then-loop-test+then-count, then-loop-test+else-count+in_default}
use Rattle.ados_port.proofs.handler.HandlerEnd.serve_batch.Goals as goal

pub loop-init : goal.loop-init
loop-init g c =
    let S = g.S.Server.gives in
    let p = c.post_waiting.ensures in
    let r = c.reserve-room.ensures in
    let offers = each_offers_room _ _ _ p.offers r.same_outlets in
    let none = serves_offers S c.args.moment c.args.self.now c.reserve-room.new.self _ (only_outlets c.args.self.now c.post_waiting.new.self c.reserve-room.new.self p.same r.same) offers in
    record {
      agree = c.self.invariant;
      room = has_room_less _ _ _ (omega arith) (subst (λ v. EachHasRoom c.args.limit v.outlets) (sym c.self.view_is) (let room = r.room in search rules));
      count = refl;
      served = ([], refl, subst (λ v. Serves S c.args.moment c.args.self.now [] v) (sym c.self.view_is) none);
      takes = subst (λ v. FoundEach c.args.self.now.served c.args.self.now.takes 0 v.served v.takes)
          (sym (c.self.view_is ∙ only_outlets c.args.self.now c.post_waiting.new.self c.reserve-room.new.self p.same r.same))
          (found_none c.args.self.now.served c.args.self.now.takes);
      first = subst (λ v. EachOffersFirst c.args.self.now.outlets v.outlets) (sym c.self.view_is) (offers_first _ _ offers);
    }

pub loop-preserved : goal.loop-preserved
loop-preserved g c =
    let x : Serving g.row.S-Request.Denot g.row.S-Moment.Denot g.row.S-Reply.Denot = record { client = c.in-Some.client; packet = c.in-Some.packet; moment = c.args.moment; answer = c.serve-answer.result } in
    let old = c.loop.self-inside in
    let h = c.loop.invariant in
    let took = c.in-Some.ensures.took in
    let e = c.serve-answer.ensures in
    let one = serves_one g.S.Server.gives old.queue c.take.new.self old.desk c.serve-answer.new.self old.outlets.items _ x (ap (λ q. q.port) took.0) (ap (λ q. q.takes) took.0) e.kept.0 e.kept.1 e.served e.meaning c.send_to.ensures in
    record {
      agree = agree_step old.queue c.take.new.self old.desk c.serve-answer.new.self old.outlets.items _ x took e.served c.send_to.ensures h.agree;
      room = room_step _ _ _ _ (omega (arith, c.loop-test.true)) (sends_one _ _ _ _ c.send_to.ensures) h.room;
      count = omega (arith, h.count);
      takes = found_more _ _ _ _ _ _ _ x h.takes e.served (ap (λ q. q.takes) took.0);
      served = (h.served.0 ++ x ∷ [], length-append h.served.0 (x ∷ []) ∙ ap (λ (k : ℕ). k + 1) h.served.1, serves_more g.S.Server.gives _ _ _ _ _ _ h.served.2 one);
      first = first_sends _ _ _ _ _ h.first c.send_to.ensures;
    }

pub invariant_of-self-in_default : goal.invariant_of-self-in_default
invariant_of-self-in_default g c =
    let old = c.loop.self-inside in agree_none old.queue c.take.new.self old.desk old.outlets.items c.in_default.ensures.none.0 c.loop.invariant.agree

pub returns-clause-ok : goal.returns-clause-ok
returns-clause-ok g c =
    let h = c.loop.invariant in
    let old = c.loop.self-inside in
    let most : c.loop.served ≤ c.args.limit = omega (arith, h.count, c.loop.auto.counter-end) in
    elim c.loop-test.branch [
      | else-loop-test w ↦ rw w.self-is (most, h.served)
      | then-loop-test+then-count w ↦ rw w.self-is (most, h.served)
      | then-loop-test+else-count+in_default w ↦ rw w.self-is (
        most,
        (
          h.served.0,
          h.served.1,
          serves_nothing g.S.Server.gives c.args.moment c.args.self.now (handler_view old.queue old.desk old.outlets.items) (handler_view w.take.new.self old.desk old.outlets.items) h.served.0 h.served.2
              (ap (λ q. handler_view q old.desk old.outlets.items) w.in_default.ensures.none.0),
        ),
      )
    ]

pub returns-clause-takes : goal.returns-clause-takes
returns-clause-takes g c =
    let h = c.loop.invariant in
    let old = c.loop.self-inside in
    let was = handler_view old.queue old.desk old.outlets.items in
    elim c.loop-test.branch [
      | else-loop-test w ↦ rw w.self-is (takes_some c.args.limit c.loop.served c.args.self.now was h.takes (inl (omega (arith, h.count, c.loop.auto.counter-end, w.loop-test.false))))
      | then-loop-test+then-count w ↦ rw w.self-is (takes_some c.args.limit c.loop.served c.args.self.now was h.takes (inr (sym w.count.ensures ∙ w.if-count.true)))
      | then-loop-test+else-count+in_default w ↦ rw w.self-is (takes_nothing c.args.limit c.loop.served c.args.self.now was (handler_view w.take.new.self old.desk old.outlets.items) h.takes
          (ap (λ q. handler_view q old.desk old.outlets.items) w.in_default.ensures.none.0))
    ]
