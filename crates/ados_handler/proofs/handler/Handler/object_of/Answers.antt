use Rattle.std.proofs.Common.{sym, ap, ◌∙◌, subst}
use Rattle.ados_handler.proofs.Common.{option_copied, HasKey, HandlerState}
use Rattle.ados_handler.proofs.Sound.{sound_key}
use Rattle.ados_handler.proofs.handler.Handler.object_of.Goals as goal

pub returns-in-Some-clause-key : goal.returns-in-Some-clause-key
returns-in-Some-clause-key c =
    let at = sym c.get.ensures ∙ ap option_copied c.in-Some.is in
    subst (λ (h : HandlerState). HasKey h.image c.in-Some.hold.now.key) c.self.view_is
    (sound_key c.self.inside.volume.image _ c.self.invariant c.args.lock c.in-Some.hold.now at)
