-- Laws: a dead handler stays dead, and only a dead handler gives a reply that closes.
use Rattle.std.specs.Prelude.{◌≡◌, true}
use Rattle.ados_name.specs.declared.stamp.Date3.{Date3}
use Rattle.ados_model.specs.Tree.{Tree}
use Rattle.ados_model.specs.declared.packet.Packet.{Packet}
use Rattle.ados_model.specs.declared.answer.Answer.{Answer}
use Rattle.ados_model.specs.Session.{Session}
use Rattle.ados_model.specs.Meaning.{Meaning, is_closing}

-- a dead handler stays dead
abbrev pub DeadStays : Type 0
DeadStays =
    (t new_tree : Tree) (s new_session : Session) (packet : Packet) (now : Date3) (answer : Answer)
    → Meaning t s packet now new_tree new_session answer → s.died ≡ true → new_session.died ≡ true

-- after a reply that closes, the handler is dead
abbrev pub ClosingIsDead : Type 0
ClosingIsDead =
    (t new_tree : Tree) (s new_session : Session) (packet : Packet) (now : Date3) (answer : Answer)
    → Meaning t s packet now new_tree new_session answer → is_closing answer ≡ true → new_session.died ≡ true
