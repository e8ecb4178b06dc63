-- The visible state of an exchange: its port, and the places of its lists.
use Rattle.std.specs.Prelude.{◌≡◌, ◌≢◌, ◌⊎◌, ℕ, ◌+◌, ◌-◌, ◌≤◌, List, length, slice_get, Some, refl}
use Rattle.std.specs.List.{sum_by}
use Rattle.std.specs.Coded.{Coded, code_by, coded×, coded_ℕ, coded_list}
use Rattle.ados_port.specs.History.{ClientState, PortState, client_state}
use Rattle.ados_port.specs.Codes.{port_code}
use Rattle.ados_port.specs.declared.step.Step.{Step}
use Rattle.ados_port.specs.declared.step.Step.TheVariants.{Put, Serve, Take}
use Rattle.ados_port.specs.declared.step.PutRefused.TheVariants.{NoRoom}
use Rattle.ados_port.specs.declared.step.Outcome.{Outcome}
use Rattle.ados_port.specs.declared.step.Outcome.TheVariants.{Refused}

-- an exchange: its port, the number of places in its list of waiting packets, and for each client the number of places
-- in its list of replies
pub record ExchangeView (S Q A : Type 0) : Type 0 where
  pub port : PortState S Q A
  pub packet_places : ℕ
  pub reply_places : List ℕ

abbrev pub exchange_code : {S Q A : Type 0} → Coded S → Coded Q → Coded A → Coded (ExchangeView S Q A)
exchange_code {S} {Q} {A} s q a =
    code_by (PortState S Q A × (ℕ × List ℕ)) (coded× (port_code s q a) (coded× coded_ℕ (coded_list coded_ℕ)))
    (λ e. (e.port, (e.packet_places, e.reply_places)))
    (λ p. record { port = p.0; packet_places = p.1.0; reply_places = p.1.1 }) (λ _. refl)

-- the packets of a client whose replies it has not taken. Each has a place in the client's list of replies
abbrev pub open_packets : {A : Type 0} → ClientState A → ℕ
open_packets c = c.accepted - c.taken

module _ {S Q A : Type 0} where
  -- there is no place for one more packet of this client: its waiting list or the client's list of replies is full, or
  -- the client's count is at its maximum
  abbrev pub IsFull : ExchangeView S Q A → ℕ → Type 0
  IsFull e client =
      (length e.port.waiting ≡ e.packet_places)
      ⊎ ((c : ClientState A) × (client_state e.port.clients client ≡ Some c)
      × ((slice_get e.reply_places (client - 1) ≡ Some (open_packets c)) ⊎ (c.accepted ≡ 18446744073709551615)))

  -- a put is refused as `NoRoom` only if there is no place for its packet
  abbrev pub RefusesIfFull : {M : Type 0} → ExchangeView S Q A → Step Q M → Outcome Q A → Type 0
  RefusesIfFull old (Put client packet) outcome = (back : Q) → outcome ≡ Refused (NoRoom back) → IsFull old client
  RefusesIfFull old (Serve moment) outcome = Unit {0}
  RefusesIfFull old (Take client) outcome = Unit {0}

  -- no list loses a place
  abbrev pub KeepsPlaces : ExchangeView S Q A → ExchangeView S Q A → Type 0
  KeepsPlaces old new =
      (old.packet_places ≤ new.packet_places) × (length new.reply_places ≡ length old.reply_places)
      × ((k before after : ℕ) → slice_get old.reply_places k ≡ Some before → slice_get new.reply_places k ≡ Some after
      → before ≤ after)

  -- each list has places for its packets and this many more
  pub record HasPlacesFor (count : ℕ) (e : ExchangeView S Q A) : Type 0 where
    pub packets : length e.port.waiting + count ≤ e.packet_places
    pub replies : (client places : ℕ) (c : ClientState A) → client_state e.port.clients client ≡ Some c
        → slice_get e.reply_places (client - 1) ≡ Some places → open_packets c + count ≤ places

  -- this many more packets bring no client's count above its maximum
  abbrev pub CanCount : ℕ → ExchangeView S Q A → Type 0
  CanCount count e =
      (client : ℕ) (c : ClientState A) → client_state e.port.clients client ≡ Some c → c.accepted + count ≤ 18446744073709551615

module _ {Q M : Type 0} where
  -- how many packets a step may put, and these steps together
  abbrev pub puts_in : Step Q M → ℕ
  puts_in (Put client packet) = 1
  puts_in (Serve moment) = 0
  puts_in (Take client) = 0

  abbrev pub put_count : List (Step Q M) → ℕ
  put_count steps = sum_by puts_in steps

-- no put was refused as `NoRoom`
abbrev pub NoneIsFull : {Q A : Type 0} → List (Outcome Q A) → Type 0
NoneIsFull {Q} outcomes = (i : ℕ) (packet : Q) → slice_get outcomes i ≢ Some (Refused (NoRoom packet))
