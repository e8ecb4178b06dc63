-- What is gathered of a handler's port after its clients are done.
use Rattle.std.specs.Prelude.{◌≡◌, ℕ, List, Vec, length}
use Rattle.std.specs.declared.alloc.Global.{Global}
use Rattle.ados_name.specs.declared.stamp.Date3.{Date3}
use Rattle.ados_model.specs.declared.packet.Packet.{Packet}
use Rattle.ados_model.specs.declared.answer.Answer.{Answer}
use Rattle.ados_port.specs.declared.step.Reply.{Reply}
use Rattle.ados_port.specs.Lawful.{Lawful}
use Rattle.ados_port.specs.Ends.{ClientView, CloseMeansDeath, HandlerView}
use Rattle.ados_port.specs.Gathering.{all_lists}
use Rattle.ados_handler.specs.HandlerState.{HandlerState}
use Rattle.ados_handler.specs.Gives.{HandlerGives}
use Rattle.ados_run.specs.TreeLists.{handler_died}

-- the lists of these ends, with replies not taken and packets not answered, are one history that ends at the handler;
-- if an end knows that the port is closed, the handler has died
pub record IsGathered (last : HandlerView HandlerState Packet Date3 Answer) (ends : List (ClientView Packet Date3 Answer)) (closing : HandlerState) : Type 0 where
  pub untaken : List (Vec (Reply Answer) Global)
  pub unanswered : List (ℕ × Packet)
  pub lawful : Lawful HandlerGives last.opening (all_lists ends untaken) last.served unanswered closing
  pub as_many : length untaken ≡ length ends
  pub closed : CloseMeansDeath ends (handler_died closing)
