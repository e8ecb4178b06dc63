use Rattle.std.proofs.Common.{sym, ap, ◌∙◌}
use Rattle.ados_handler.proofs.Common.{option_copied, insert}
use Rattle.ados_handler.proofs.Sound.{sound_copied}
use Rattle.ados_handler.proofs.handler.Handler.copy_dir.Goals as goal

pub invariant_of-self-2 : goal.invariant_of-self-2
invariant_of-self-2 c =
    let at = sym c.get.ensures ∙ ap option_copied c.in-Some.is in
    let more = c.insert_reserved-number.ensures.held ∙ ap (λ m. insert m c.insert_reserved-number.result c.in-Some.hold.now) c.reserve.ensures.held in
    sound_copied c.self.inside.volume.image _ c.self.invariant c.args.lock c.in-Some.hold.now at c.if-hold.false c.insert_reserved-number.result c.insert_reserved-number.new.self.held more
