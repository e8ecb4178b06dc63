-- The headline: the result of a run of port steps over an image. First its terms: a handler beside its tree, and its
-- death.
use Rattle.std.specs.Prelude.{List, ◌≡◌, ℕ, map, ◌+◌, true, take, drop, slice_get, Some, All}
use Rattle.adf_block.specs.Whole.{IsImage}
use Rattle.ados_model.specs.Accepted.{Accepts}
use Rattle.ados_model.specs.Tree.{Tree, Date3}
use Rattle.ados_model.specs.Meaning.{Meaning, is_closing}
use Rattle.ados_model.specs.{Session.opening_session, Stands.Stands, Packet.refused_answer}
use Rattle.ados_handler.specs.HandlerState.{HandlerState}
use Rattle.ados_model.specs.declared.{packet.Packet.Packet, answer.Answer.Answer}
use Rattle.ados_model.specs.declared.{dos_error.DosError.TheVariants.DeviceNotMounted}
use Rattle.ados_port.specs.declared.step.{Step.Step, Outcome.Outcome}
use Rattle.ados_port.specs.History.{PortState, Serving, ServerMeaning, PortHistory, last_server, opening_port}
use Rattle.ados_port.specs.History.{ClosedOnceDead}

-- a port with a handler as its server
abbrev pub HandlerPort : Type 0
HandlerPort = PortState HandlerState Packet Answer

-- steps of packets, each serve with a date, and outcomes of steps
abbrev pub PacketSteps : Type 0
PacketSteps = List (Step Packet Date3)

abbrev pub PacketOutcomes : Type 0
PacketOutcomes = List (Outcome Packet Answer)

-- a handler, and the tree of its image
pub record BothSides : Type 0 where
  pub tree : Tree
  pub handler : HandlerState

-- a packet is served: the tree changes by the packet's meaning, and the new image represents the new tree
pub record MeansBoth (old : BothSides) (packet : Packet) (now : Date3) (new : BothSides) (answer : Answer)
    : Type 0 where
  pub means : Meaning old.tree old.handler.session packet now new.tree new.handler.session answer
  pub stands : Stands new.handler.image new.tree

-- a port of a handler with this tree beside it
abbrev pub port_beside : Tree → HandlerPort → PortState BothSides Packet Answer
port_beside t port =
    record { server = record { tree = t; handler = port.server }; clients = port.clients; waiting = port.waiting }

-- from this tree, the steps had these outcomes; tree and image changed together, and the last image represents the last
-- tree
pub record FollowsTree (together : ServerMeaning BothSides Packet Date3 Answer) (t : Tree) (opening : HandlerPort)
    (steps : PacketSteps) (outcomes : PacketOutcomes) (closing : HandlerPort) : Type 0 where
  pub last_tree : Tree
  pub history : PortHistory together (λ (both : BothSides). both.handler.session.died)
      (port_beside t opening) steps outcomes (port_beside last_tree closing)
  pub stands : Stands closing.server.image last_tree

-- this handler served packets one after the other, and each led to one of these handlers
module _ (opening : HandlerState) (served : List (Serving Packet Date3 Answer)) (servers : List HandlerState) where
  -- the handler after the first packets
  abbrev pub handler_after : ℕ → HandlerState
  handler_after count = last_server opening (take count servers)

  -- each packet after the first `count` is refused, and no byte of the image changes
  pub record RestsAfter (count : ℕ) : Type 0 where
    pub too_late : All (λ (s : Serving Packet Date3 Answer). s.answer ≡ refused_answer s.packet DeviceNotMounted)
        (drop count served)
    pub image : (more : ℕ) → (handler_after (count + more)).image ≡ (handler_after count).image

  -- the handler rests after its death, so after each answer that closes
  pub record RestsOnceDead : Type 0 where
    pub dead : (count : ℕ) → (handler_after count).session.died ≡ true → RestsAfter count
    pub closing : (place : ℕ) (s : Serving Packet Date3 Answer) → slice_get served place ≡ Some s
        → is_closing s.answer ≡ true → RestsAfter (place + 1)

-- `check` accepted the image: it shows no fault, and the handler's image is the same, byte for byte. Or, if its root
-- says that the bitmap is not valid, the handler's image differs from it only in bitmap blocks and in the root's
-- checksum and flag, and has no lost block. The handler's image is a list of bytes. The handler is alive, without locks
-- and handles. Its image represents exactly one tree. At a port over it, image and tree went through the steps together
-- in this way. After the handler's death each put was refused as closed, each packet was refused, and no byte changed.
pub record RunsWith (together : ServerMeaning BothSides Packet Date3 Answer) (image : List ℕ) (clients : ℕ)
    (steps : PacketSteps) (outcomes : PacketOutcomes) (closing : HandlerPort) : Type 0 where
  pub opening : HandlerState
  pub accepted : Accepts image opening.was_validated opening.image
  pub bytes : IsImage opening.image
  pub unused : opening.session ≡ opening_session
  pub tree : Tree
  pub stands : Stands opening.image tree
  pub only : (other : Tree) → Stands opening.image other → other ≡ tree
  pub follows : FollowsTree together tree (opening_port opening clients) steps outcomes closing
  pub closed : ClosedOnceDead follows.history
  pub rests : RestsOnceDead opening follows.history.served (map (λ both. both.handler) follows.history.servers)

-- each packet was answered according to its meaning for the tree, and the tree changed accordingly
abbrev pub RunsVolume : List ℕ → ℕ → PacketSteps → PacketOutcomes → HandlerPort → Type 0
RunsVolume = RunsWith MeansBoth
