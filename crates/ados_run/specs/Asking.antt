-- The result of a client's packet. The client's end is given before and after.
use Rattle.std.specs.Prelude.{◌≡◌, ℕ, true, List, [], ◌∷◌, ◌++◌, length}
use Rattle.ados_port.specs.declared.step.Reply.{Reply}
use Rattle.ados_port.specs.Ends.{ClientView}
use Rattle.adf_script.specs.declared.ending.ClientEnding.{ClientEnding}
use Rattle.adf_script.specs.declared.ending.ClientEnding.TheVariants.{Done, Tries}
use Rattle.adf_script.specs.Text.{closed_line, no_room_line, no_reply_line}
use Rattle.ados_run.specs.declared.asking.Stopped.{Stopped}
use Rattle.ados_run.specs.declared.asking.Stopped.TheVariants.{Closed, NoRoom, NoReply}

module _ {Q M A : Type 0} where
  -- the packet was put, and no reply taken
  pub record HasPut (old : ClientView Q M A) (packet : Q) (new : ClientView Q M A) : Type 0 where
    pub put : new.put ≡ old.put ++ packet ∷ []
    pub taken : new.taken ≡ old.taken

  -- a reply was taken, its number counts the replies of this end, and nothing was put
  pub record HasTaken (old : ClientView Q M A) (reply : Reply A) (new : ClientView Q M A) : Type 0 where
    pub put : new.put ≡ old.put
    pub moment : M
    pub taken : new.taken ≡ old.taken ++ (moment, reply.answer) ∷ []
    pub number : reply.number ≡ length new.taken

  -- the packet was put and a reply taken
  pub record Replied (old : ClientView Q M A) (packet : Q) (reply : Reply A) (new : ClientView Q M A) : Type 0 where
    pub put : new.put ≡ old.put ++ packet ∷ []
    pub moment : M
    pub taken : new.taken ≡ old.taken ++ (moment, reply.answer) ∷ []
    pub number : reply.number ≡ length new.taken

  -- no list grew
  abbrev pub Rests : ClientView Q M A → ClientView Q M A → Type 0
  Rests old new = (new.put ≡ old.put) × (new.taken ≡ old.taken)

  -- no reply was taken: the end knows that the port is closed, or nothing was put, or only the packet was
  abbrev pub StoppedBy : ClientView Q M A → Q → Stopped → ClientView Q M A → Type 0
  StoppedBy old packet Closed new = Rests old new × (new.knows ≡ true)
  StoppedBy old packet NoRoom new = Rests old new
  StoppedBy old packet NoReply new = HasPut old packet new

-- the last line of a client without a reply to the packet with this number
abbrev pub stop_line : ℕ → ℕ → Stopped → List ℕ
stop_line client number Closed = closed_line client number
stop_line client number NoRoom = no_room_line client number
stop_line client number NoReply = no_reply_line client number

-- how the client ends
abbrev pub stop_ending : Stopped → ClientEnding
stop_ending Closed = Done
stop_ending NoRoom = Tries
stop_ending NoReply = Tries
