-- Codes for handlers, which a model needs.
use Rattle.std.specs.Prelude.{ℕ, Bool, List, refl}
use Rattle.std.specs.Coded.{Coded, code_by, coded×, coded_ℕ, coded_bool, coded_list}
use Rattle.ados_model.specs.Session.{Session}
use Rattle.ados_model.specs.Codes.{session_code}
use Rattle.ados_handler.specs.HandlerState.{HandlerState, Places}

-- a code for the places
abbrev pub places_code : Coded Places
places_code =
    code_by (Bool × Bool) (coded× coded_bool coded_bool) (λ p. (p.for_lock, p.for_handle))
    (λ p. record { for_lock = p.0; for_handle = p.1 }) (λ _. refl)

-- a code for handlers
abbrev pub handler_code : Coded HandlerState
handler_code =
    code_by (List ℕ × (Bool × (Session × Places)))
    (coded× (coded_list coded_ℕ) (coded× coded_bool (coded× session_code places_code)))
    (λ h. (h.image, (h.was_validated, (h.session, h.places))))
    (λ p. record { image = p.0; was_validated = p.1.0; session = p.1.1.0; places = p.1.1.1 }) (λ _. refl)
