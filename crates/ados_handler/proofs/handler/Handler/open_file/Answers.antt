use Rattle.std.proofs.Common.{false, sym, ap, ◌∙◌, subst}
use Rattle.ados_handler.proofs.Common.{HasKey, is_in_use, HandlerState}
use Rattle.ados_handler.proofs.Opening.{proper_opened}
use Rattle.ados_handler.proofs.handler.Handler.open_file.Goals as goal

pub invariant_of-self-2 : goal.invariant_of-self-2
invariant_of-self-2 c =
    let sound = c.self.invariant in
    let there = subst (λ (h : HandlerState). HasKey h.image c.args.key) (sym c.self.view_is) c.requires sound.tree sound.stands in
    let file = sym (c.is_file.ensures.file sound.tree sound.stands) ∙ c.if-not-is_file.false in
    let free = ap (λ (h : HandlerState). is_in_use h.session c.args.key false) c.self.view_is ∙ sym c.is_in_use.ensures ∙ c.if-is_in_use.false in
    record { tree = sound.tree; stands = sound.stands; holds = proper_opened c.args.key _ _ _ _ _ c.opened.ensures.brings c.reserve.ensures.held sound.tree sound.holds there file free }
