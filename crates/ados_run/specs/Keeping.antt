-- What no packet changes: packet by packet, the image of a handler next to the tree that it represents.
use Rattle.std.specs.Prelude.{ℕ, Bool, List}
use Rattle.ados_name.specs.declared.stamp.Date3.{Date3}
use Rattle.ados_model.specs.declared.packet.Packet.{Packet}
use Rattle.ados_model.specs.declared.answer.Answer.{Answer}
use Rattle.ados_handler.specs.Gives.{HandlerGives}
use Rattle.ados_run.specs.Runs.{HandlerPort, PacketOutcomes, PacketSteps, BothSides, MeansBoth, RunsWith}
use Rattle.adf_script.specs.declared.ending.ClientEnding.{ClientEnding}
use Rattle.ados_handler.specs.HandlerState.{HandlerState}
use Rattle.ados_run.specs.ServesVolume.{ServesWith}

-- a packet is served according to its meaning, and the image changes as a handler may change it: bytes outside fields
-- are untouched, the lowest free blocks are allocated, and a refused packet or one that only reads changes no byte
pub record ServesBoth (old : BothSides) (packet : Packet) (now : Date3) (new : BothSides) (answer : Answer)
    : Type 0 where
  pub meant : MeansBoth old packet now new answer
  pub gives : HandlerGives old.handler packet now new.handler answer

-- in this run each packet left everything else untouched
abbrev pub KeepsVolume : List ℕ → ℕ → PacketSteps → PacketOutcomes → HandlerPort → Type 0
KeepsVolume = RunsWith ServesBoth

-- with clients on their own threads, each packet left everything else untouched
abbrev pub KeepsServed : List ℕ → Bool → List (List ℕ) → Date3 → List (List ℕ × ClientEnding) → HandlerState → Type 0
KeepsServed = ServesWith ServesBoth
