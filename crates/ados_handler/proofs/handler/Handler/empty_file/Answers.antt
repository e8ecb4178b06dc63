use Rattle.std.proofs.Common.{true, sym, ap, ◌∙◌, subst}
use Rattle.ados_handler.proofs.Common.{Stands, is_in_use, HandlerState}
use Rattle.ados_handler.proofs.Emptying.{emptied_opens, emptied_sound}
use Rattle.ados_handler.proofs.handler.Handler.empty_file.Goals as goal

pub invariant_of-self-2 : goal.invariant_of-self-2
invariant_of-self-2 c =
    let sound = c.self.invariant in
    let file = sym (c.is_file.ensures.file sound.tree sound.stands) ∙ c.if-not-is_file.false in
    let free = ap (λ (h : HandlerState). is_in_use h.session c.args.key true) c.self.view_is ∙ sym c.is_in_use.ensures ∙ c.if-is_in_use.false in
    emptied_sound _ _ c.args.key c.args.now _ c.cut.ensures.stands _ _ _ c.opened.ensures.brings c.reserve.ensures.held sound file free

pub returns-clause-opens : goal.returns-clause-opens
returns-clause-opens c =
    let sound = c.self.invariant in
    let file = sym (c.is_file.ensures.file sound.tree sound.stands) ∙ c.if-not-is_file.false in
    let free = ap (λ (h : HandlerState). is_in_use h.session c.args.key true) c.self.view_is ∙ sym c.is_in_use.ensures ∙ c.if-is_in_use.false in
    let told = sym (c.file_protection-protection.ensures sound.tree (subst (λ (h : HandlerState). Stands h.image sound.tree) c.self.view_is sound.stands)) in
    emptied_opens _ _ c.args.key c.args.now _ c.cut.ensures.stands _ _ _ c.opened.ensures.brings c.reserve.ensures.held c.args.self.now _ _ _ c.self.view_is sound.tree sound.stands
    file free _ told (sym c.denies_delete.ensures ∙ c.if-denies_delete.false) (sym c.denies_write.ensures ∙ c.if-denies_write.false) c.cut.ensures.keeps _ c.cut.ensures.validated
