-- The visible state of the ends of the queue.
use Rattle.std.specs.Prelude.{◌≡◌, ◌==◌, ◌&&◌, ◌||◌, ℕ, ◌%◌, ◌<◌, nat_le, Bool, true, false, List, Option, length}
use Rattle.std.specs.declared.alloc.Global.{Global}
use Rattle.crossbeam_queue.specs.SegTies.{SegId}
use Rattle.crossbeam_queue.specs.declared.seg_queue.Going.{Going}
use Rattle.crossbeam_queue.specs.declared.seg_queue.Stage.{Stage}
use Rattle.crossbeam_queue.specs.declared.seg_queue.Stage.TheVariants.{SawTail}
use Rattle.ados_port.specs.declared.seat.Seat.{Seat}
use Rattle.ados_port.specs.steps.Rule.{client, handler}

-- a client's end of the queue: which port, the client's number, its put list, and whether its last put found the queue
-- full
pub record PutView (Q : Type 0) : Type 0 where
  pub port : SegId Global
  pub number : ℕ
  pub put : List Q
  pub full : Bool

-- the handler's end of the queue: which port, the number of clients, the taken packets, the put lists of gathered
-- clients, and what each take found
pub record TakeView (Q : Type 0) : Type 0 where
  pub port : SegId Global
  pub clients : ℕ
  pub taken : List (ℕ × Q)
  pub known : List (List Q)
  pub takes : List (Option (ℕ × Q))

-- a pass saw the queue's tail last
abbrev pub saw_tail : Stage → Bool
saw_tail SawTail = true
saw_tail _ = false

module _ {Q : Type 0} where
  -- and put nothing there: one packet more needs a new block, or there is no position left
  abbrev pub found_full : Going (ℕ × Q) (Seat Q) → Bool
  found_full pass = saw_tail pass.stage && ((pass.at % 32 == 30) || nat_le 4611686018427387776 pass.at)

  -- the visible state of a client's end with this pass, and that it is the pass of a client with this many puts
  abbrev pub put_view : SegId Global → ℕ → Going (ℕ × Q) (Seat Q) → PutView Q
  put_view port number pass = record { port = port; number = number; put = pass.client.put; full = found_full pass }

  abbrev pub IsPutPass : ℕ → ℕ → Seat Q → Type 0
  IsPutPass number count pass = (pass ≡ client number pass.put) × (0 < number) × (count ≡ length pass.put)

  -- the visible state of the handler's end with this pass, and that it is the handler's pass
  abbrev pub take_view : SegId Global → ℕ → List (Option (ℕ × Q)) → Seat Q → TakeView Q
  take_view port clients takes pass = record { port = port; clients = clients; taken = pass.taken; known = pass.known; takes = takes }

  abbrev pub IsTakePass : ℕ → Seat Q → Type 0
  IsTakePass clients pass = pass ≡ handler clients pass.taken pass.known
