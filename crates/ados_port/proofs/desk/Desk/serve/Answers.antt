use Rattle.std.proofs.Common.{ap, sym, ◌∙◌}
use Rattle.ados_port.proofs.Runs.{desk_step, still_alive}
use Rattle.ados_port.proofs.Drains.{count_more}
use Rattle.ados_port.proofs.desk.Desk.serve.Goals as goal

pub invariant_of-self : goal.invariant_of-self
invariant_of-self g c = (
  desk_step g.S.Server.gives _ _ _ _ _ _ c.push.ensures c.self.invariant.0 (rw (c.of-asked.ensures, c.of.ensures) c.serve-answer.ensures),
  ap (λ m. m.knows) c.set.ensures ∙ (sym c.if-died.true ∙ c.died.ensures),
  count_more _ _ _ _ c.push.ensures c.self.invariant.2,
)

pub invariant_of-self-else-died : goal.invariant_of-self-else-died
invariant_of-self-else-died g c = (
  desk_step g.S.Server.gives _ _ _ _ _ _ c.push.ensures c.self.invariant.0 (rw (c.of-asked.ensures, c.of.ensures) c.serve-answer.ensures),
  c.self.invariant.1 ∙ still_alive _ _ (g.met.S.Server.stays_dead _ _ _ _ _ c.serve-answer.ensures) (sym c.died.ensures ∙ c.if-died.false),
  count_more _ _ _ _ c.push.ensures c.self.invariant.2,
)
