-- The visible state of an exchange.
use Rattle.std.specs.Prelude.{◌≡◌, ℕ, ◌+◌, ◌==◌, ◌≤◌, List, map, count_by, length, slice_get, Some}
use Rattle.ados_port.specs.History.{ClientState}
use Rattle.ados_port.specs.steps.Taking.{places_of}
use Rattle.ados_port.specs.declared.counts.Client.{Client}
use Rattle.ados_port.specs.declared.exchange.Waiting.{Waiting}

abbrev pub clients_view : {A : Type 0} → List (Client A) → List (ClientState A)
clients_view cs = map (λ c. record { accepted = c.accepted; taken = c.taken; untaken = c.replies.items }) cs

-- the places in each client's list of replies
abbrev pub places_view : {A : Type 0} → List (Client A) → List ℕ
places_view cs = map (λ c. places_of c) cs

abbrev pub waiting_view : {Q : Type 0} → List (Waiting Q) → List (ℕ × Q)
waiting_view ws = map (λ w. (w.client, w.packet)) ws

-- each client counts its waiting packets, and each waiting packet belongs to a client
pub record IsKept {Q A : Type 0} (clients : List (Client A)) (waiting : List (Waiting Q)) : Type 0 where
  pub counted : (i : ℕ) (c : Client A) → slice_get clients i ≡ Some c → c.waiting ≡ count_by (λ w. w.client == i + 1) waiting
  pub known : (i : ℕ) (w : Waiting Q) → slice_get waiting i ≡ Some w → (1 ≤ w.client) × (w.client ≤ length clients)
