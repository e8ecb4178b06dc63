use Rattle.std.proofs.Common.{◌∙◌, sym, subst, arith, length}
use Rattle.ados_port.proofs.Eachs.{each_offers_posts, posts_said}
use Rattle.ados_port.proofs.Handling.{waiting_served}
use Rattle.ados_port.specs.Ends.{OfClients}
use Rattle.ados_port.proofs.handler.HandlerEnd.post_waiting.Goals as goal

pub post_all-requires : goal.post_all-requires
post_all-requires g c =
    let h = c.self.invariant in
    let clients = subst (λ n. OfClients n c.self.inside.queue.taken) (sym h.2) h.4 in
    let few = waiting_served c.self.inside.outlets.items c.self.inside.desk.served (subst (λ l. OfClients (length c.self.inside.outlets.items) l) (sym h.0) clients) h.3 in
    omega (arith, few, c.count-served.ensures)

pub invariant_of-self : goal.invariant_of-self
invariant_of-self g c =
    let h = c.self.invariant in
    (h.0, h.1, c.post_all.ensures.offers.0 ∙ h.2, posts_said _ _ _ (each_offers_posts _ _ c.post_all.ensures.offers) h.3, h.4, h.5)
