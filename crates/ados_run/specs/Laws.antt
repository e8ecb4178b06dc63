-- Laws about the definitions.
use Rattle.std.specs.Prelude.{◌≡◌, ℕ, List}
use Rattle.ados_model.specs.Tree.{Tree}
use Rattle.ados_model.specs.Stands.{Stands}
use Rattle.ados_model.specs.Accepted.{IsRefusal}
use Rattle.ados_model.specs.declared.fault.FaultKind.TheVariants.{NoMemory}
use Rattle.ados_model.specs.declared.fault.VolumeFault.{VolumeFault}
use Rattle.ados_port.specs.History.{PortHistory, Run}
use Rattle.ados_port.specs.Lawful.{Lawful}
use Rattle.ados_model.specs.declared.packet.Packet.{Packet}
use Rattle.ados_handler.specs.HandlerState.{HandlerState}
use Rattle.ados_handler.specs.Gives.{HandlerGives}
use Rattle.adf_script.specs.Ran.{LinesAreOneRun}
use Rattle.ados_run.specs.Runs.{HandlerPort, PacketOutcomes, PacketSteps, FollowsTree, RestsOnceDead}
use Rattle.ados_run.specs.TreeLists.{ServedPackets, PacketLists, ListsFollowTree, handler_died}
use Rattle.ados_run.specs.TreePort.{means, over_tree, tree_died, with_tree}
use Rattle.ados_run.specs.Keeping.{ServesBoth}

-- a history of a handler's port, opened or in use, is also one of the tree of its image side by side
abbrev pub HistoriesFollowTrees : Type 0
HistoriesFollowTrees =
    (t : Tree) (opening : HandlerPort) (steps : PacketSteps) (outcomes : PacketOutcomes) (closing : HandlerPort)
    → Stands opening.server.image t → PortHistory HandlerGives handler_died opening steps outcomes closing → FollowsTree ServesBoth t opening steps outcomes closing

-- if the lists of a running handler's port are lawful, the tree of its opening image follows side by side
abbrev pub ListsFollowTrees : Type 0
ListsFollowTrees =
    (t : Tree) (opening : HandlerState) (clients : PacketLists) (served : ServedPackets) (unanswered : List (ℕ × Packet)) (closing : HandlerState)
    → Stands opening.image t → Lawful HandlerGives opening clients served unanswered closing → ListsFollowTree ServesBoth t opening clients served unanswered closing

-- a history side by side is a history of the tree alone, without an image, and one of the handler alone
abbrev pub EachSideIsAHistory : Type 0
EachSideIsAHistory =
    (t : Tree) (opening : HandlerPort) (steps : PacketSteps) (outcomes : PacketOutcomes) (closing : HandlerPort)
    (follows : FollowsTree ServesBoth t opening steps outcomes closing)
    → PortHistory means tree_died (over_tree t opening) steps outcomes (over_tree follows.last_tree closing)
    × PortHistory HandlerGives handler_died opening steps outcomes closing

-- the same for lists
abbrev pub EachSideIsLawful : Type 0
EachSideIsLawful =
    (t : Tree) (opening : HandlerState) (clients : PacketLists) (served : ServedPackets) (unanswered : List (ℕ × Packet)) (closing : HandlerState)
    (follows : ListsFollowTree ServesBoth t opening clients served unanswered closing)
    → Lawful means (with_tree t opening) clients served unanswered (with_tree follows.last_tree closing)
    × Lawful HandlerGives opening clients served unanswered closing

-- a dead handler refuses each packet that it serves, and changes no byte
abbrev pub DeadHandlersRest : Type 0
DeadHandlersRest =
    (opening : HandlerState) (served : ServedPackets) (servers : List HandlerState)
    → Run HandlerGives opening served servers → RestsOnceDead opening served servers

-- an image that represents a tree is refused only if memory runs out
abbrev pub TreesReadBack : Type 0
TreesReadBack = (image : List ℕ) (t : Tree) (fault : VolumeFault) → Stands image t → IsRefusal image fault → fault.kind ≡ NoMemory

-- the output of a script at the port of a tree, line by line, is that of one run, in one history of that port
abbrev pub LinesOverTreesAreOneRun : Type 0
LinesOverTreesAreOneRun = LinesAreOneRun means tree_died
