use Rattle.std.proofs.Common.{sym, subst, ◌∙◌}
use Rattle.ados_port.specs.Ends.{AreEnds}
use Rattle.ados_port.specs.steps.HandlerEnds.{AllHeard}
use Rattle.ados_port.specs.steps.Rooms.{RoomsFit}
use Rattle.ados_port.proofs.gathering.gather.Goals as goal

pub finish-requires-clause-ends : goal.finish-requires-clause-ends
finish-requires-clause-ends g c =
    let s = c.room_for_replies.ensures.same in
    let e = c.hear_all.ensures.same in
    subst (λ h. AreEnds h c.hear_all.new.clients.items) (sym s.0) (subst (λ l. AreEnds c.args.handler l) (sym (e ∙ s.1)) c.requires)

pub finish-requires-clause-rooms : goal.finish-requires-clause-rooms
finish-requires-clause-rooms g c =
    let s = c.room_for_replies.ensures.same in
    let e = c.hear_all.ensures.same in
    subst (λ h. RoomsFit c.hear_all.new.clients.items h.outlets c.in-Some.untaken.items) (sym s.0)
    (subst (λ l. RoomsFit l c.args.handler.outlets c.in-Some.untaken.items) (sym (e ∙ s.1)) c.in-Some.ensures.rooms)

pub finish-requires-clause-heard : goal.finish-requires-clause-heard
finish-requires-clause-heard g c =
    subst (λ l. AllHeard g.S.Server.is_closing (g.S.Server.has_died c.room_for_replies.new.handler.server) l) (sym c.hear_all.ensures.same)
    (c.hear_all.ensures.heard c.if-not-hear_all.false)
