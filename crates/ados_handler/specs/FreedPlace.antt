-- Law: the place of a freed hold serves the next one.
use Rattle.std.specs.Prelude.{◌≡◌, ◌≢◌, pos, List, Some}
use Rattle.std.specs.List.{All}
use Rattle.ados_name.specs.declared.stamp.Date3.{Date3}
use Rattle.ados_model.specs.Packet.{error_number}
use Rattle.ados_model.specs.declared.{packet.Packet.Packet, answer.Answer.Answer}
use Rattle.ados_model.specs.declared.dos_error.DosError.TheVariants.{NoFreeStore}
use Rattle.ados_port.specs.History.{Run, Serving, last_server}
use Rattle.ados_handler.specs.HandlerState.{HandlerState}
use Rattle.ados_handler.specs.Room.{HoldKind, kind_freed, kind_made}
use Rattle.ados_handler.specs.Gives.{HandlerGives}

-- the packet makes no hold of this kind, or was refused
abbrev pub MakesNone : HoldKind → Serving Packet Date3 Answer → Type 0
MakesNone kind served = kind_made served.packet ≡ Some kind → served.answer.res2 ≢ pos 0

-- a packet freed a lock, or a handle; other packets made none; then one that makes one is not refused for lack of memory
abbrev pub FreedPlaceServes : Type 0
FreedPlaceServes =
    (kind : HoldKind) (old freed : HandlerState) (first : Serving Packet Date3 Answer)
    → HandlerGives old first.packet first.moment freed first.answer
    → kind_freed first.packet ≡ Some kind → first.answer.res2 ≡ pos 0
    → (between : List (Serving Packet Date3 Answer)) (handlers : List HandlerState)
    → Run HandlerGives freed between handlers → All (MakesNone kind) between
    → (packet : Packet) (now : Date3) (new : HandlerState) (answer : Answer)
    → HandlerGives (last_server freed handlers) packet now new answer → kind_made packet ≡ Some kind
    → answer.res2 ≢ pos (error_number NoFreeStore)
