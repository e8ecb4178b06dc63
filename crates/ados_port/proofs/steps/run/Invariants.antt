use Rattle.std.proofs.Common.{◌≡◌, ◌+◌, ◌≤◌, List, ◌++◌, vec_len, vec_capacity}
use Rattle.std.specs.VecDeque.{deque_len}
use Rattle.ados_port.specs.History.{PortHistory}
use Rattle.ados_port.specs.declared.step.Step.{Step}
use Rattle.ados_port.specs.Exchanges.{CanCount, HasPlacesFor, NoneIsFull, put_count}
use Rattle.ados_port.proofs.steps.run.Given as goal

abbrev pub invariant-loop-step : goal.invariant-loop-step
invariant-loop-step g l =
    (done : List (Step _ _)) × (done ++ l.rest.items ≡ l.fn.steps.items) × PortHistory g.S.Server.gives g.S.Server.has_died l.fn.exchange.port done l.outcomes.items l.exchange.port
    × (vec_len l.outcomes + deque_len l.rest ≤ vec_capacity l.outcomes)
    × (HasPlacesFor (put_count l.fn.steps.items) l.fn.exchange → CanCount (put_count l.fn.steps.items) l.fn.exchange
    → HasPlacesFor (put_count l.rest.items) l.exchange × CanCount (put_count l.rest.items) l.exchange × NoneIsFull l.outcomes.items)

abbrev pub decreases-loop-step : goal.decreases-loop-step
decreases-loop-step g l = deque_len l.rest
