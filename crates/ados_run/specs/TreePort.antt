-- A port whose server is a tree with its locks and handles: the meaning of packets, without an image.
use Rattle.std.specs.Prelude.{Bool}
use Rattle.ados_name.specs.declared.stamp.Date3.{Date3}
use Rattle.ados_model.specs.Tree.{Tree}
use Rattle.ados_model.specs.declared.packet.Packet.{Packet}
use Rattle.ados_model.specs.declared.answer.Answer.{Answer}
use Rattle.ados_model.specs.Session.{Session}
use Rattle.ados_handler.specs.HandlerState.{HandlerState}
use Rattle.ados_model.specs.Meaning.{Meaning}
use Rattle.ados_port.specs.History.{PortState}
use Rattle.ados_run.specs.Runs.{HandlerPort}

-- a tree, and the locks and handles on it
pub record TreeState : Type 0 where
  pub tree : Tree
  pub session : Session

-- a packet is served according to its meaning
abbrev pub means : TreeState → Packet → Date3 → TreeState → Answer → Type 0
means old packet now new answer = Meaning old.tree old.session packet now new.tree new.session answer

-- whether a tree's server has died
abbrev pub tree_died : TreeState → Bool
tree_died state = state.session.died

-- a handler with this tree in place of its image, and its port
abbrev pub with_tree : Tree → HandlerState → TreeState
with_tree t handler = record { tree = t; session = handler.session }

abbrev pub over_tree : Tree → HandlerPort → PortState TreeState Packet Answer
over_tree t port = record { server = with_tree t port.server; clients = port.clients; waiting = port.waiting }
