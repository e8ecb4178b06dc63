use Rattle.std.proofs.Common.{◌≡◌, false, sym, ap, ◌∙◌, subst}
use Rattle.ados_handler.proofs.Common.{insert, HasKey, is_in_use, HandlerState}
use Rattle.ados_handler.proofs.Locating.{sound_locked}
use Rattle.ados_handler.proofs.handler.Handler.bring_lock.Goals as goal

pub invariant_of-self-2 : goal.invariant_of-self-2
invariant_of-self-2 c =
    let more = c.insert_reserved-number.ensures.held ∙ ap (λ m. insert m c.insert_reserved-number.result (record { key = c.args.key; exclusive = c.args.exclusive })) c.reserve.ensures.held in
    let there = subst (λ (h : HandlerState). HasKey h.image c.args.key) (sym c.self.view_is) c.requires.key in
    let free = subst (λ (h : HandlerState). is_in_use h.session c.args.key c.args.exclusive ≡ false) (sym c.self.view_is) c.requires.free in
    sound_locked c.self.inside.volume.image _ c.self.invariant c.insert_reserved-number.result c.args.key c.args.exclusive there free c.insert_reserved-number.new.self.held more
