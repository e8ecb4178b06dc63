-- The lists of a running port's ends, with a tree beside the handler's image.
use Rattle.std.specs.Prelude.{Bool, List, map, ℕ}
use Rattle.ados_name.specs.declared.stamp.Date3.{Date3}
use Rattle.ados_model.specs.Tree.{Tree}
use Rattle.ados_model.specs.declared.packet.Packet.{Packet}
use Rattle.ados_model.specs.declared.answer.Answer.{Answer}
use Rattle.ados_handler.specs.HandlerState.{HandlerState}
use Rattle.ados_model.specs.Stands.{Stands}
use Rattle.ados_port.specs.Lawful.{ClientLists, Lawful}
use Rattle.ados_port.specs.History.{ServerMeaning, Serving}
use Rattle.ados_run.specs.Runs.{BothSides}

-- whether a handler has died
abbrev pub handler_died : HandlerState → Bool
handler_died handler = handler.session.died

-- whether the handler of these has died
abbrev pub both_died : BothSides → Bool
both_died both = handler_died both.handler

-- served packets
abbrev pub ServedPackets : Type 0
ServedPackets = List (Serving Packet Date3 Answer)

-- the handlers of these
abbrev pub handlers_of : List BothSides → List HandlerState
handlers_of states = map (λ s. s.handler) states

-- a handler with this tree beside it
abbrev pub beside : Tree → HandlerState → BothSides
beside t handler = record { tree = t; handler = handler }

-- the lists of clients
abbrev pub PacketLists : Type 0
PacketLists = List (ClientLists Packet Answer)

-- the lists of all ends belong to one history from this tree; at each packet tree and image changed together in this
-- way, and at the end the image represents the resulting tree
pub record ListsFollowTree (together : ServerMeaning BothSides Packet Date3 Answer) (t : Tree) (opening : HandlerState)
    (clients : PacketLists) (served : ServedPackets)
    (unanswered : List (ℕ × Packet)) (closing : HandlerState) : Type 0 where
  pub last_tree : Tree
  pub lawful : Lawful together (beside t opening) clients served unanswered (beside last_tree closing)
  pub stands : Stands closing.image last_tree
