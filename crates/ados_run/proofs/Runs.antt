-- A run over the volume from `check`.
use Rattle.std.proofs.Common.{◌≡◌, ℕ, Bool, true, false, List, sym, subst}
use Rattle.ados_run.proofs.Common.{Date3, Tree, Stands, one_tree, PortState, opening_port, PortHistory, Step, Outcome, Packet, Answer, opening_session, HandlerState, HandlerGives, BothSides, FollowsTree, port_beside, both_died, beside, handlers_of, handler_died, KeepsVolume, ServesBoth}
use Rattle.adf_block.specs.Whole.{IsImage}
use Rattle.ados_model.specs.Accepted.{Accepts}
use Rattle.ados_handler.specs.HandlerState.{no_places}
use Rattle.ados_run.specs.ServesVolume.{handler_over}
use Rattle.ados_port.proofs.Closing.{closed_after_death}
use Rattle.ados_handler.specs.steps.Closes.{serves_dead}
use Rattle.ados_run.proofs.Following.{handlers_run, histories_follow_trees}
use Rattle.ados_run.proofs.Resting.{dead_handlers_rest}

-- an accepted image represents a tree
accepted_tree : (image checked : List ℕ) (was_validated : Bool) → Accepts image was_validated checked → (t : Tree) × Stands checked t
accepted_tree image checked false a = a.3
accepted_tree image checked true a = (a.2.0, a.2.1)

-- the opening handler, by its image, its validation and its holds
pub opening_handler : (handler : HandlerState) (image : List ℕ) (was_validated : Bool) → handler.image ≡ image → handler.was_validated ≡ was_validated → handler.session ≡ opening_session → handler.places ≡ no_places
    → handler ≡ handler_over image was_validated
opening_handler handler image was_validated i v s p j = record { image = i j; was_validated = v j; session = s j; places = p j }

-- a handler over an accepted image has an accepted image
pub accepted_by : (image checked : List ℕ) (was_validated : Bool) (handler : HandlerState) → handler.image ≡ checked → handler.was_validated ≡ was_validated
    → Accepts image was_validated checked → Accepts image handler.was_validated handler.image
accepted_by image checked was_validated handler i v accepted = subst (λ (z : Bool × List ℕ). Accepts image z.0 z.1) (λ j. (sym v j, sym i j)) accepted

-- a dead handler stays dead, with its tree next to it
both_stay_dead : (old new : BothSides) (packet : Packet) (moment : Date3) (answer : Answer) → ServesBoth old packet moment new answer → both_died old ≡ true → both_died new ≡ true
both_stay_dead old new packet moment answer given dead = serves_dead old.handler new.handler packet moment answer given.gives dead

pub keeps_volume : (image : List ℕ) (clients : ℕ) (steps : List (Step Packet Date3)) (outcomes : List (Outcome Packet Answer)) (closing : PortState HandlerState Packet Answer)
    (handler : HandlerState) → Accepts image handler.was_validated handler.image → IsImage handler.image → handler.session ≡ opening_session
    → (opening : PortState HandlerState Packet Answer) → opening ≡ opening_port handler clients
    → PortHistory HandlerGives handler_died opening steps outcomes closing → KeepsVolume image clients steps outcomes closing
keeps_volume image clients steps outcomes closing handler accepted bytes unused opening opened h =
    let first : PortState HandlerState Packet Answer = opening_port handler clients in
    let from_first : PortHistory HandlerGives handler_died first steps outcomes closing =
    subst (λ (p : PortState HandlerState Packet Answer). PortHistory HandlerGives handler_died p steps outcomes closing) opened h in
    let (t, stood) = accepted_tree image handler.image handler.was_validated accepted in
    let follows : FollowsTree ServesBoth t first steps outcomes closing = histories_follow_trees t first steps outcomes closing stood from_first in
    record {
      opening = handler;
      accepted = accepted;
      bytes = bytes;
      unused = unused;
      tree = t;
      stands = stood;
      only = λ other stands. one_tree handler.image other t stands stood;
      follows = follows;
      closed = closed_after_death ServesBoth both_died both_stay_dead (port_beside t first) steps outcomes (port_beside follows.last_tree closing) follows.history;
      rests = dead_handlers_rest handler follows.history.served (handlers_of follows.history.servers) (handlers_run (beside t handler) follows.history.served follows.history.servers follows.history.meaning);
    }
