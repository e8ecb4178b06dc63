-- A port, the packets that its server has served, and its history, by counts of the events before each step. A put
-- appends its packet and a serve removes the first one, as PutMsg and GetMsg do (ROM Kernel Manual, message ports).
use Rattle.std.specs.Prelude.{ℕ, ◌-◌, ◌==◌, if◌then◌else◌, List, [], slice_get, replicate, Option, option_map, None}
use Rattle.std.specs.Prelude.{◌≡◌, ◌∷◌, map, filter, ◌⊎◌, ◌+◌, Bool, ◌++◌, length, take, drop, Some, MatchOption}
use Rattle.std.specs.Prelude.{MatchBool, true, filter_map}
pub use Rattle.ados_port.specs.declared.step.{Step.Step, Outcome.Outcome, Reply.Reply}
use Rattle.ados_port.specs.declared.step.Step.TheVariants.{Put, Serve, Take}
use Rattle.ados_port.specs.declared.step.PutRefused.TheVariants.{Closed, NoRoom}
use Rattle.ados_port.specs.declared.step.Outcome.TheVariants.{Accepted, Refused, Served, Idle, Taken, Nothing, NoClient}

-- a client: the number of its accepted packets and of its replies taken, and its replies not taken yet
pub record ClientState (A : Type 0) : Type 0 where
  pub accepted : ℕ
  pub taken : ℕ
  pub untaken : List A

-- a port: its server, its clients from number 1, and the waiting packets, each with its client
pub record PortState (S Q A : Type 0) : Type 0 where
  pub server : S
  pub clients : List (ClientState A)
  pub waiting : List (ℕ × Q)

-- the client with this number; numbers start at 1
abbrev pub client_state : {A : Type 0} → List (ClientState A) → ℕ → Option (ClientState A)
client_state clients number = if number == 0 then None else slice_get clients (number - 1)

-- a port with this many clients, before any put
abbrev pub opening_port : {S Q A : Type 0} → S → ℕ → PortState S Q A
opening_port server clients =
    record {
      server = server;
      clients = replicate clients (record { accepted = 0; taken = 0; untaken = [] });
      waiting = [];
    }

-- a served packet: its client, the time stamp, and the answer
pub record Serving (Q M A : Type 0) : Type 0 where
  pub client : ℕ
  pub packet : Q
  pub moment : M
  pub answer : A

-- the values of this client in a list of values with their clients, in order
abbrev pub packets_by : {Q : Type 0} → ℕ → List (ℕ × Q) → List Q
packets_by client packets = map (λ p. p.1) (filter (λ p. p.0 == client) packets)

-- the meaning of a server: by a packet with a time stamp the old server may become the new one and give this answer
abbrev pub ServerMeaning : Type 0 → Type 0 → Type 0 → Type 0 → Type 1
ServerMeaning S Q M A = S → Q → M → S → A → Type 0

-- these packets may get these answers, starting with the old server, and lead to these servers one after the other
abbrev pub Run : {S Q M A : Type 0} → ServerMeaning S Q M A → S → List (Serving Q M A) → List S → Type 0
Run gives old [] [] = Unit {0}
Run gives old (s ∷ served) (new ∷ servers) = gives old s.packet s.moment new s.answer × Run gives new served servers
Run gives old _ _ = ⊥

-- the last of these servers, or the opening one if there are none
abbrev pub last_server : {S : Type 0} → S → List S → S
last_server opening [] = opening
last_server opening (server ∷ servers) = last_server server servers

-- a step with its outcome
pub record Event (Q M A : Type 0) : Type 0 where
  pub step : Step Q M
  pub outcome : Outcome Q A

-- each step with its outcome
abbrev pub events_of : {Q M A : Type 0} → List (Step Q M) → List (Outcome Q A) → List (Event Q M A)
events_of (step ∷ steps) (outcome ∷ outcomes) = record { step = step; outcome = outcome } ∷ events_of steps outcomes
events_of _ _ = []

module _ {Q M A : Type 0} where
  -- the packet that a step added to the port, with its client
  abbrev pub packet_accepted : Step Q M → Outcome Q A → Option (ℕ × Q)
  packet_accepted (Put client packet) (Accepted number) = Some (client, packet)
  packet_accepted _ _ = None

  -- the time stamp of a step that served a packet
  abbrev pub moment_served : Step Q M → Outcome Q A → Option M
  moment_served (Serve moment) Served = Some moment
  moment_served _ _ = None

  -- the reply that a client took in a step
  abbrev pub reply_taken : Step Q M → Outcome Q A → Option (ℕ × Reply A)
  reply_taken (Take client) (Taken reply) = Some (client, reply)
  reply_taken _ _ = None

  -- the packets accepted in these events, in order, with their clients
  abbrev pub accepted_in : List (Event Q M A) → List (ℕ × Q)
  accepted_in events = filter_map (λ e. packet_accepted e.step e.outcome) events

  -- the time stamps of the packets served in these events
  abbrev pub moments_in : List (Event Q M A) → List M
  moments_in events = filter_map (λ e. moment_served e.step e.outcome) events

  -- the replies taken in these events, with their clients
  abbrev pub taken_in : List (Event Q M A) → List (ℕ × Reply A)
  taken_in events = filter_map (λ e. reply_taken e.step e.outcome) events

  -- the number of packets served in these events, and of this client's replies taken
  abbrev pub served_count : List (Event Q M A) → ℕ
  served_count events = length (moments_in events)

  abbrev pub taken_count : ℕ → List (Event Q M A) → ℕ
  taken_count client events = length (packets_by client (taken_in events))

-- every packet of the port, in order: those waiting at the opening, then those accepted since
abbrev pub queue : {S Q M A : Type 0} → PortState S Q A → List (Event Q M A) → List (ℕ × Q)
queue opening before = opening.waiting ++ accepted_in before

-- a client after these events, in which these packets were served
abbrev pub client_now : {Q M A : Type 0} → List (Serving Q M A) → List (Event Q M A) → ℕ → ClientState A → ClientState A
client_now served before number c = record {
  accepted = c.accepted + length (packets_by number (accepted_in before));
  taken = c.taken + taken_count number before;
  untaken = drop (taken_count number before) (c.untaken ++ packets_by number (map (λ s. (s.client, s.answer)) served));
}

-- the outcome of a put: closed exactly if the server is dead; otherwise accepted with the client's next number, or no
-- room
abbrev pub PutFits : {Q A : Type 0} → Bool → Q → ClientState A → Outcome Q A → Type 0
PutFits died packet c outcome =
    MatchBool died (outcome ≡ Refused (Closed packet))
    ((outcome ≡ Accepted (c.accepted + 1)) ⊎ (outcome ≡ Refused (NoRoom packet)))

-- the outcome of a take: the client's first remaining reply with the next number, or nothing
abbrev pub take_outcome : {Q A : Type 0} → ℕ → List A → Outcome Q A
take_outcome taken [] = Nothing
take_outcome taken (answer ∷ answers) = Taken (record { number = taken + 1; answer = answer })

-- the outcome fits the state before the step: the packets served so far, whether the server was dead, and the events
abbrev pub OutcomeFits : {S Q M A : Type 0} → PortState S Q A → List (Serving Q M A) → Bool → List (Event Q M A)
    → Step Q M → Outcome Q A → Type 0
OutcomeFits opening served died before (Put client packet) outcome =
    MatchOption (client_state opening.clients client) (outcome ≡ NoClient (Some packet))
    (λ c. PutFits died packet (client_now served before client c) outcome)
OutcomeFits opening served died before (Serve moment) outcome =
    outcome ≡ (if length served == length (queue opening before) then Idle else Served)
OutcomeFits opening served died before (Take client) outcome =
    MatchOption (client_state opening.clients client) (outcome ≡ NoClient None)
    (λ c. outcome ≡ take_outcome (client_now served before client c).taken (client_now served before client c).untaken)

-- the server after these events
abbrev pub server_by : {S Q M A : Type 0} → List (Event Q M A) → S → List S → S
server_by before opening servers = last_server opening (take (served_count before) servers)

-- these steps at a port had these outcomes, and led to the closing port
pub record PortHistory {S Q M A : Type 0} (gives : ServerMeaning S Q M A) (has_died : S → Bool)
    (opening : PortState S Q A) (steps : List (Step Q M)) (outcomes : List (Outcome Q A)) (closing : PortState S Q A)
    : Type 0 where
  -- each served packet with its answer, and the server after it
  pub served : List (Serving Q M A)
  pub servers : List S
  pub meaning : Run gives opening.server served servers
  -- the served packets are the first ones of the port, each with the time stamp of its serve
  pub in_order : map (λ s. (s.client, s.packet)) served ≡ take (length served)
      (queue opening (events_of steps outcomes))
  pub moments : map (λ s. s.moment) served ≡ moments_in (events_of steps outcomes)
  -- there is an outcome for each step, and it fits the state before it
  pub as_long : length outcomes ≡ length steps
  pub fits : (i : ℕ) (e : Event Q M A) → slice_get (events_of steps outcomes) i ≡ Some e
      → let before = take i (events_of steps outcomes)
      in OutcomeFits opening (take (served_count before) served)
      (has_died (server_by before opening.server servers)) before e.step e.outcome
  -- the closing port: the server after the last packet, the packets not served, and the counts of each client
  pub closing_server : closing.server ≡ last_server opening.server servers
  pub closing_waiting : closing.waiting ≡ drop (length served) (queue opening (events_of steps outcomes))
  pub closing_clients : (number : ℕ) → client_state closing.clients number
      ≡ option_map (client_now served (events_of steps outcomes) number) (client_state opening.clients number)

-- after any steps that leave the server dead, each later put by a client was refused as closed, with its packet
abbrev pub ClosedOnceDead : {S Q M A : Type 0} {gives : ServerMeaning S Q M A} {has_died : S → Bool}
    {opening : PortState S Q A} {steps : List (Step Q M)} {outcomes : List (Outcome Q A)} {closing : PortState S Q A}
    → PortHistory gives has_died opening steps outcomes closing → Type 0
ClosedOnceDead {Q = Q} {A = A} {has_died = has_died} {opening = opening} {steps = steps} {outcomes = outcomes} history =
    (count : ℕ) → has_died (server_by (take count (events_of steps outcomes)) opening.server history.servers) ≡ true
    → (i client : ℕ) (packet : Q) (outcome : Outcome Q A) (c : ClientState A)
    → slice_get (drop count (events_of steps outcomes)) i ≡ Some
    (record { step = Put client packet; outcome = outcome })
    → client_state opening.clients client ≡ Some c → outcome ≡ Refused (Closed packet)
