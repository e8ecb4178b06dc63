-- Codes for sessions, which a model needs.
use Rattle.std.specs.Prelude.{ℕ, Bool, refl}
use Rattle.std.specs.Ordering.{nat_cmp}
use Rattle.std.specs.FinMap as numbered
use Rattle.std.specs.Coded.{Coded, code_by, coded×, coded_ℕ, coded_bool}
use Rattle.ados_model.specs.declared.holds.LockHold.{LockHold}
use Rattle.ados_model.specs.declared.holds.HandleHold.{HandleHold}
use Rattle.ados_model.specs.Session.{Session}

-- codes for sessions, which a model needs
abbrev pub lock_code : Coded LockHold
lock_code =
    code_by (ℕ × Bool) (coded× coded_ℕ coded_bool) (λ l. (l.key, l.exclusive))
    (λ p. record { key = p.0; exclusive = p.1 }) (λ _. refl)

abbrev pub handle_code : Coded HandleHold
handle_code =
    code_by (ℕ × (ℕ × Bool)) (coded× coded_ℕ (coded× coded_ℕ coded_bool)) (λ h. (h.key, (h.position, h.exclusive)))
    (λ p. record { key = p.0; position = p.1.0; exclusive = p.1.1 }) (λ _. refl)

abbrev pub session_code : Coded Session
session_code =
    code_by (numbered.FinMap nat_cmp LockHold × (numbered.FinMap nat_cmp HandleHold × Bool))
    (coded× (numbered.code coded_ℕ lock_code) (coded× (numbered.code coded_ℕ handle_code) coded_bool))
    (λ s. (s.locks, (s.handles, s.died)))
    (λ p. record { locks = p.0; handles = p.1.0; died = p.1.1 }) (λ _. refl)

-- the locks and handles of a handler, and whether it has died
abbrev pub session_of : numbered.FinMap nat_cmp LockHold → numbered.FinMap nat_cmp HandleHold → Bool → Session
session_of locks handles died = record { locks = locks; handles = handles; died = died }
