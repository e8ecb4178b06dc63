-- Laws on replayed packets: what determines the bytes of the closing image.
use Rattle.std.specs.Prelude.{◌≡◌, ℕ, List, [], ◌∷◌, map, Some}
use Rattle.adf_block.specs.Whole.{IsImage}
use Rattle.ados_name.specs.declared.stamp.Date3.{Date3}
use Rattle.ados_model.specs.declared.packet.Packet.{Packet}
use Rattle.ados_model.specs.declared.answer.Answer.{Answer}
use Rattle.ados_handler.specs.HandlerState.{HandlerState}
use Rattle.ados_port.specs.History.{ClientState, PortHistory, Run, client_state, opening_port}
use Rattle.ados_handler.specs.Gives.{HandlerGives}
use Rattle.ados_run.specs.Runs.{HandlerPort, PacketOutcomes, PacketSteps}
use Rattle.ados_run.specs.TreeLists.{ServedPackets, handler_died}

-- a handler over an image of bytes
abbrev pub HasBytes : HandlerState → Type 0
HasBytes handler = IsImage handler.image

-- two handlers over the same image, byte for byte, with the same locks and handles
pub record IsSameHandler (handler other : HandlerState) : Type 0 where
  pub images : other.image ≡ handler.image
  pub validated : other.was_validated ≡ handler.was_validated
  pub sessions : other.session ≡ handler.session

-- two lists of handlers, the same ones one after the other
abbrev pub AreSameHandlers : List HandlerState → List HandlerState → Type 0
AreSameHandlers [] [] = Unit {0}
AreSameHandlers (handler ∷ handlers) (other ∷ others) = IsSameHandler handler other × AreSameHandlers handlers others
AreSameHandlers _ _ = ⊥

-- the answers to these packets
abbrev pub answers_of : ServedPackets → List Answer
answers_of served = map (λ s. s.answer) served

-- no client has a reply left to take
abbrev pub AllTaken : HandlerPort → Type 0
AllTaken port =
    (number : ℕ) (c : ClientState Answer) → client_state port.clients number ≡ Some c → c.untaken ≡ []

-- a packet, its time stamp and its answer determine the handler after it: the image byte for byte, and the holds
abbrev pub SameAnswerSameHandler : Type 0
SameAnswerSameHandler =
    (old again new other : HandlerState) (packet : Packet) (now : Date3) (answer : Answer)
    → IsSameHandler old again → HasBytes old
    → HandlerGives old packet now new answer → HandlerGives again packet now other answer → IsSameHandler new other

-- served packets with their answers determine each handler on the way
abbrev pub SameAnswersSameHandlers : Type 0
SameAnswersSameHandlers =
    (opening again : HandlerState) (served : ServedPackets) (servers others : List HandlerState)
    → IsSameHandler opening again → HasBytes opening
    → Run HandlerGives opening served servers → Run HandlerGives again served others → AreSameHandlers servers others

-- at a port, steps, outcomes and the answers to the served packets determine the closing handler; an answer that no
-- client has taken is in no outcome, and the number of a lock in it is a free choice
abbrev pub SameStepsSameBytes : Type 0
SameStepsSameBytes =
    (opening again closing other : HandlerPort) (steps : PacketSteps) (outcomes : PacketOutcomes)
    → IsSameHandler opening.server again.server → HasBytes opening.server → again.waiting ≡ opening.waiting
    → (history : PortHistory HandlerGives handler_died opening steps outcomes closing)
    → (replay : PortHistory HandlerGives handler_died again steps outcomes other)
    → answers_of replay.served ≡ answers_of history.served → IsSameHandler closing.server other.server

-- at a port opened for these clients, steps and outcomes alone determine the closing handler once all replies are taken
abbrev pub SameOutcomesSameBytes : Type 0
SameOutcomesSameBytes =
    (opening again : HandlerState) (clients : ℕ) (closing other : HandlerPort)
    (steps : PacketSteps) (outcomes : PacketOutcomes)
    → IsSameHandler opening again → HasBytes opening
    → PortHistory HandlerGives handler_died (opening_port opening clients) steps outcomes closing
    → PortHistory HandlerGives handler_died (opening_port again clients) steps outcomes other
    → AllTaken closing → IsSameHandler closing.server other.server
