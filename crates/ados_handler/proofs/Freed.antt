-- The place of a freed hold serves the next one.
use Rattle.std.proofs.Common.{◌≡◌, true, List, [], ◌∷◌, Option, sym, ap, ◌∙◌}
use Rattle.std.specs.List.{All}
use Rattle.std.proofs.lemmas.List.Elements.{All-from_recursion, recursion_from_All}
use Rattle.ados_handler.proofs.Common.{true≢false, option_map_or, Date3, Packet, HandlerState, HandlerGives, has_place}
use Rattle.ados_model.specs.declared.answer.Answer.{Answer}
use Rattle.ados_port.specs.History.{Run, Serving, last_server}
use Rattle.ados_handler.specs.Room.{HoldKind}
use Rattle.ados_handler.specs.FreedPlace.{FreedPlaceServes, MakesNone}

-- the place stays through a run that makes no hold of its kind
stays_along : (kind : HoldKind) (old : HandlerState) (served : List (Serving Packet Date3 Answer)) (handlers : List HandlerState) → has_place old.places kind ≡ true
    → Run HandlerGives old served handlers → All (MakesNone kind) served → has_place (last_server old handlers).places kind ≡ true
stays_along kind old [] [] place run none = place
stays_along kind old (s ∷ served) (new ∷ handlers) place run none =
    let parts = recursion_from_All (MakesNone kind) (s ∷ served) none in
    stays_along kind new served handlers (run.0.room.stays kind parts.0 place) run.1 (All-from_recursion (MakesNone kind) served parts.1)
stays_along kind old [] (new ∷ handlers) place run none = absurd run
stays_along kind old (s ∷ served) [] place run none = absurd run

pub freed_place_serves : FreedPlaceServes
freed_place_serves kind old freed first given frees served between handlers run none packet now new answer gives makes lacks =
    let place = stays_along kind freed between handlers (given.room.freed served kind frees) run none in
    let full = gives.room.full lacks in
    true≢false (sym place ∙ sym (ap (λ (o : Option HoldKind). option_map_or (has_place (last_server freed handlers).places) o true) makes) ∙ full)
