-- The lists of a port's clients, from histories.
use Rattle.std.specs.Prelude.{◌≡◌, ℕ, ◌+◌, Bool, List, length, slice_get, Some}
use Rattle.ados_port.specs.History.{ClientState, PortState, client_state, opening_port, ServerMeaning, Serving}
use Rattle.ados_port.specs.History.{packets_by, Event, PortHistory, accepted_in, events_of, taken_in}
use Rattle.ados_port.specs.Lawful.{ClientLists, numbered}
use Rattle.ados_port.specs.declared.step.Step.{Step}
use Rattle.ados_port.specs.declared.step.Outcome.{Outcome}

-- these are the lists of this many clients: the packets they put and the replies they took in these events, and the
-- replies that the port still has for them
pub record ListsOf {S Q M A : Type 0} (count : ℕ) (events : List (Event Q M A)) (closing : PortState S Q A)
    (clients : List (ClientLists Q A)) : Type 0 where
  pub as_many : length clients ≡ count
  pub each_put : (place : ℕ) (lists : ClientLists Q A) → slice_get clients place ≡ Some lists
      → lists.put ≡ packets_by (place + 1) (accepted_in events)
  pub each_taken : (place : ℕ) (lists : ClientLists Q A) → slice_get clients place ≡ Some lists
      → lists.taken ≡ packets_by (place + 1) (taken_in events)
  pub each_untaken : (place : ℕ) (lists : ClientLists Q A) (c : ClientState A) → slice_get clients place ≡ Some lists
      → client_state closing.clients (place + 1) ≡ Some c → lists.untaken ≡ numbered (c.taken + 1) c.untaken

-- some sequence of steps at a port opened for these clients has this history: each client put and took what its lists
-- say, these packets were served with these answers, and the unanswered ones still wait
pub record HasHistory {S Q M A : Type 0} (gives : ServerMeaning S Q M A) (has_died : S → Bool) (opening : S)
    (clients : List (ClientLists Q A))
    (served : List (Serving Q M A)) (unanswered : List (ℕ × Q)) (closing : S) : Type 0 where
  pub steps : List (Step Q M)
  pub outcomes : List (Outcome Q A)
  pub last : PortState S Q A
  pub history : PortHistory gives has_died (opening_port opening (length clients)) steps outcomes last
  pub lists : ListsOf (length clients) (events_of steps outcomes) last clients
  pub all_served : history.served ≡ served
  pub all_waiting : last.waiting ≡ unanswered
  pub last_server : last.server ≡ closing
