-- Codes for ports, which a model needs.
use Rattle.std.specs.Prelude.{ℕ, List, refl}
use Rattle.std.specs.Coded.{Coded, code_by, coded×, coded_ℕ, coded_list}
use Rattle.ados_port.specs.History.{ClientState, PortState}

-- codes for values of these types, which a model needs
abbrev pub client_code : {A : Type 0} → Coded A → Coded (ClientState A)
client_code {A} a =
    code_by (ℕ × (ℕ × List A)) (coded× coded_ℕ (coded× coded_ℕ (coded_list a)))
    (λ c. (c.accepted, (c.taken, c.untaken)))
    (λ p. record { accepted = p.0; taken = p.1.0; untaken = p.1.1 }) (λ _. refl)

abbrev pub port_code : {S Q A : Type 0} → Coded S → Coded Q → Coded A → Coded (PortState S Q A)
port_code {S} {Q} {A} s q a =
    code_by (S × (List (ClientState A) × List (ℕ × Q)))
    (coded× s (coded× (coded_list (client_code a)) (coded_list (coded× coded_ℕ q))))
    (λ p. (p.server, (p.clients, p.waiting)))
    (λ p. record { server = p.0; clients = p.1.0; waiting = p.1.1 }) (λ _. refl)
