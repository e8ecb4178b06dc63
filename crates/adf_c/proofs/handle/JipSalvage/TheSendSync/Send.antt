-- What holds a salvage may go to another thread, because a salvage may.
use denote.Param.Send.{IsSend}
use Rattle.adf_c.proofs.HandleValues.{crosses}
use Rattle.adf_c.proofs.Handles.{salvage}
use Rattle.adf_c.specs.contracts.handle.JipSalvage.{the_row}
use Rattle.ados_salvage.proofs.saved.Salvage.TheSendSync.{the_send}

pub send : IsSend the_row
send = crosses salvage the_send
