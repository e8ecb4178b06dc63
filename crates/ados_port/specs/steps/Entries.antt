-- The history of a server, as its served packets.
use Rattle.std.specs.Prelude.{List, map}
use Rattle.ados_port.specs.declared.desk.Entry.{Entry}
use Rattle.ados_port.specs.History.{Serving}

abbrev pub served_of : {S Q A M : Type 0} → List (Entry S Q A M) → List (Serving Q M A)
served_of entries = map (λ e. record { client = e.client; packet = e.packet.value; moment = e.moment; answer = e.answer.value }) entries
