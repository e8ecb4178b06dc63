-- The results of a packet's method. With the packet's action they are the answer.
use Rattle.std.specs.Prelude.{◌≡◌, ◌⊎◌, false, IsTrue, MatchOption}
use Rattle.ados_name.specs.declared.stamp.Date3.{Date3}
use Rattle.ados_model.specs.Tree.{Tree}
use Rattle.ados_model.specs.Stands.{Stands}
use Rattle.ados_model.specs.Packet.{action_of}
use Rattle.ados_model.specs.declared.{packet.Packet.Packet, answer.Answer.Answer}
use Rattle.ados_model.specs.declared.dos_error.DosError.TheVariants.{NoFreeStore}
use Rattle.ados_model.specs.declared.results.Results.{Results}
use Rattle.ados_model.specs.Session.{Session}
use Rattle.ados_model.specs.Refusals.{refusal}
use Rattle.ados_model.specs.Meaning.{IsRefused, IsServed, makes_hold}
use Rattle.ados_handler.specs.HandlerState.{HandlerState, Places}
use Rattle.ados_handler.specs.Room.{room_for}
use Rattle.ados_handler.specs.Gives.{LeavesImage}

-- the answer to a packet with these results
abbrev pub answer_to : Packet → Results → Answer
answer_to packet results = record { action = action_of packet; res1 = results.res1; res2 = results.res2; body = results.body }

-- a packet that no refusal excludes is served, or refused with `NoFreeStore` where there was no place for its hold
abbrev pub ServedOrFull : Places → Tree → Session → Packet → Date3 → Tree → Session → Answer → Type 0
ServedOrFull places t s packet now new_tree new_session answer =
    IsServed t s packet now new_tree new_session answer
    ⊎ (IsTrue (makes_hold t s packet) × (room_for places packet ≡ false) × IsRefused t s packet NoFreeStore new_tree new_session answer)

-- the packet's meaning allows this answer, and these places do
abbrev pub MethodMeans : Places → Tree → Session → Packet → Date3 → Tree → Session → Results → Type 0
MethodMeans places t s packet now new_tree new_session results =
    MatchOption (refusal t s packet)
    (ServedOrFull places t s packet now new_tree new_session (answer_to packet results))
    (λ error. IsRefused t s packet error new_tree new_session (answer_to packet results))

-- the handler gives this answer; what it does to the places is said apart
pub record MethodGives (old : HandlerState) (packet : Packet) (now : Date3) (new : HandlerState) (results : Results)
    : Type 0 where
  pub old_tree : Tree
  pub new_tree : Tree
  pub stood : Stands old.image old_tree
  pub stands : Stands new.image new_tree
  pub means : MethodMeans old.places old_tree old.session packet now new_tree new.session results
  pub leaves : LeavesImage old_tree old packet new (answer_to packet results)
  pub validated : new.was_validated ≡ old.was_validated
