-- Laws of ports, for any server.
use Rattle.std.specs.Prelude.{◌≡◌, ◌↔◌, ℕ, Bool, false, List}
use Rattle.ados_port.specs.History.{PortState, ServerMeaning, Serving, PortHistory, ClosedOnceDead}
use Rattle.ados_port.specs.Lawful.{ClientLists, Lawful}
use Rattle.ados_port.specs.Lists.{HasHistory}
use Rattle.ados_port.specs.declared.step.Step.{Step}
use Rattle.ados_port.specs.declared.step.Outcome.{Outcome}

module _ {S Q M A : Type 0} (gives : ServerMeaning S Q M A) (has_died : S → Bool) where
  -- with a living opening server, lists are lawful exactly if they have a history
  abbrev pub ListsHaveAHistory : Type 0
  ListsHaveAHistory =
      (opening : S) (clients : List (ClientLists Q A)) (served : List (Serving Q M A)) (unanswered : List (ℕ × Q)) (closing : S)
      → has_died opening ≡ false → Lawful gives opening clients served unanswered closing ↔ HasHistory gives has_died opening clients served unanswered closing

  -- in every history, the port is closed after its server's death
  abbrev pub ClosedAfterDeath : Type 0
  ClosedAfterDeath =
      (opening : PortState S Q A) (steps : List (Step Q M)) (outcomes : List (Outcome Q A)) (closing : PortState S Q A)
      (history : PortHistory gives has_died opening steps outcomes closing) → ClosedOnceDead history
