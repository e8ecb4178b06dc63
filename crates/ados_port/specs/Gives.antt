-- The effect of one step on a port.
use Rattle.std.specs.Prelude.{◌≡◌, ◌⊎◌, ℕ, ◌+◌, ◌-◌, Bool, List, [], ◌∷◌, ◌++◌, slice_get, slice_set, Some, None, MatchOption, drop}
use Rattle.std.specs.Bool.{MatchBool}
use Rattle.ados_port.specs.History.{ClientState, PortState, client_state, ServerMeaning, Event, served_count, queue}
use Rattle.ados_port.specs.declared.step.Step.{Step}
use Rattle.ados_port.specs.declared.step.Step.TheVariants.{Put, Serve, Take}
use Rattle.ados_port.specs.declared.step.PutRefused.TheVariants.{Closed, NoRoom}
use Rattle.ados_port.specs.declared.step.Outcome.{Outcome}
use Rattle.ados_port.specs.declared.step.Outcome.TheVariants.{Accepted, Refused, Served, Idle, Taken, Nothing, NoClient}

-- the outcome of one put: its refusals, and the change by an accepted one
abbrev pub PutGives : {S Q A : Type 0} → (S → Bool) → PortState S Q A → ℕ → Q → Outcome Q A → PortState S Q A → Type 0
PutGives has_died old client packet outcome new =
    MatchOption (client_state old.clients client)
    ((outcome ≡ NoClient (Some packet)) × (new ≡ old))
    (λ c. MatchBool (has_died old.server)
    ((outcome ≡ Refused (Closed packet)) × (new ≡ old))
    (((outcome ≡ Accepted (c.accepted + 1)) × (new ≡ record {
      server = old.server;
      clients = slice_set old.clients (client - 1) (record c { accepted = c.accepted + 1 });
      waiting = old.waiting ++ (client, packet) ∷ [];
    })) ⊎ ((outcome ≡ Refused (NoRoom packet)) × (new ≡ old))))

-- the outcome of one serve: nothing if no packet waits, else the first one is served
abbrev pub ServeGives : {S Q M A : Type 0} → ServerMeaning S Q M A → PortState S Q A → M → Outcome Q A → PortState S Q A → Type 0
ServeGives {S} {Q} {M} {A} gives old moment outcome new =
    ((old.waiting ≡ []) × (outcome ≡ Idle) × (new ≡ old))
    ⊎ ((first : ℕ × Q) × (rest : List (ℕ × Q)) × (old.waiting ≡ first ∷ rest) × (outcome ≡ Served)
    × (c : ClientState A) × (client_state old.clients first.0 ≡ Some c)
    × (server : S) × (answer : A) × gives old.server first.1 moment server answer
    × (new ≡ record {
      server = server;
      clients = slice_set old.clients (first.0 - 1) (record c { untaken = c.untaken ++ answer ∷ [] });
      waiting = rest;
    }))

-- the outcome of one take: nothing if the client has no reply, else the first one
abbrev pub TakeGives : {S Q A : Type 0} → PortState S Q A → ℕ → Outcome Q A → PortState S Q A → Type 0
TakeGives {S} {Q} {A} old client outcome new =
    MatchOption (client_state old.clients client)
    ((outcome ≡ NoClient None) × (new ≡ old))
    (λ c. ((c.untaken ≡ []) × (outcome ≡ Nothing) × (new ≡ old))
    ⊎ ((answer : A) × (rest : List A) × (c.untaken ≡ answer ∷ rest)
    × (outcome ≡ Taken (record { number = c.taken + 1; answer = answer }))
    × (new ≡ record old { clients = slice_set old.clients (client - 1) (record { accepted = c.accepted; taken = c.taken + 1; untaken = rest }) })))

-- the outcome of one step
abbrev pub StepGives : {S Q M A : Type 0} → ServerMeaning S Q M A → (S → Bool) → PortState S Q A → Step Q M → Outcome Q A → PortState S Q A → Type 0
StepGives gives has_died old (Put client packet) outcome new = PutGives has_died old client packet outcome new
StepGives gives has_died old (Serve moment) outcome new = ServeGives gives old moment outcome new
StepGives gives has_died old (Take client) outcome new = TakeGives old client outcome new

-- the waiting packets are all packets of the port without as many first ones as these events served
abbrev pub FirstAreServed : {S Q M A : Type 0} → PortState S Q A → List (Event Q M A) → PortState S Q A → Type 0
FirstAreServed opening events closing = closing.waiting ≡ drop (served_count events) (queue opening events)

-- each put by a client of the port was refused as closed, with its packet
abbrev pub PutsAreClosed : {S Q M A : Type 0} → PortState S Q A → List (Event Q M A) → Type 0
PutsAreClosed {S} {Q} {M} {A} opening events =
    (i client : ℕ) (packet : Q) (outcome : Outcome Q A) (c : ClientState A)
    → slice_get events i ≡ Some (record { step = Put client packet; outcome = outcome })
    → client_state opening.clients client ≡ Some c → outcome ≡ Refused (Closed packet)
