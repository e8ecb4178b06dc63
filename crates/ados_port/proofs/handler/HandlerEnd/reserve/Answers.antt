use Rattle.std.proofs.Common.{◌∙◌}
use Rattle.ados_port.proofs.Eachs.{each_gets_posts, posts_said}
use Rattle.ados_port.proofs.handler.HandlerEnd.reserve.Goals as goal

pub invariant_of-self : goal.invariant_of-self
invariant_of-self g c =
    let h = c.self.invariant in
    (h.0, h.1, c.reserve_all.ensures.same.0 ∙ h.2, posts_said _ _ _ (each_gets_posts _ _ c.reserve_all.ensures.same) h.3, h.4, h.5)
