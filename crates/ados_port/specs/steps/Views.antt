-- The visible state of a client's end and of the handler's end, composed from their parts.
use Rattle.std.specs.Prelude.{◌≡◌, ◌+◌, ◌||◌, ℕ, Bool, List, [], length, Some, slice_get}
use Rattle.ados_port.specs.Lawful.{packets_of}
use Rattle.ados_port.specs.Rings.{OutView, all_of}
use Rattle.ados_port.specs.Ends.{ClientView, HandlerView, OfClients, found_in, replies_to}
use Rattle.ados_port.specs.steps.ClosingMark.{CloseView}
use Rattle.ados_port.specs.steps.QueueEnds.{PutView, TakeView}
use Rattle.ados_port.specs.steps.Sending.{InView}
use Rattle.ados_port.specs.steps.Desks.{DeskView}

-- a client's end consists of its ends of the queue, of a ring and of the mark, and of a flag for a taken closing reply
abbrev pub client_view : {Q M A : Type 0} → PutView Q → InView (M × A) → CloseView → Bool → ClientView Q M A
client_view queue inlet mark shut = record {
  port = queue.port;
  mark = mark.mark;
  ring = inlet.ring;
  number = queue.number;
  put = queue.put;
  taken = inlet.taken;
  knows = shut || mark.knows;
  full = queue.full;
}

-- the handler's end consists of its end of the queue, the server with its history and the mark, and the outlets of all
-- clients
abbrev pub handler_view : {S Q M A : Type 0} → TakeView Q → DeskView S Q M A → List (OutView (M × A)) → HandlerView S Q M A
handler_view queue desk outlets = record {
  port = queue.port;
  mark = desk.mark;
  opening = desk.opening;
  served = desk.served;
  server = desk.server;
  outlets = outlets;
  knows = desk.knows;
  takes = queue.takes;
}

-- these parts belong together: the taken packets, each of a client, are those that were served, no client is gathered,
-- each client has an outlet, with the replies to its packets, and the taken packets are those that the takes found
abbrev pub Agree : {S Q M A : Type 0} → TakeView Q → DeskView S Q M A → List (OutView (M × A)) → Type 0
Agree {M = M} {A = A} queue desk outlets =
    (packets_of desk.served ≡ queue.taken) × (queue.known ≡ []) × (length outlets ≡ queue.clients)
    × ((k : ℕ) (o : OutView (M × A)) → slice_get outlets k ≡ Some o → all_of o ≡ replies_to (k + 1) desk.served)
    × OfClients queue.clients queue.taken
    × (found_in queue.takes ≡ queue.taken)
