-- A handle may go to another thread, because a desk may.
use denote.Param.Send.{IsSend}
use Rattle.adf_c.proofs.HandleValues.{crosses}
use Rattle.adf_c.proofs.Handles.{handle}
use Rattle.adf_c.specs.contracts.handle.JipHandle.{the_row}
use Rattle.adf_c.proofs.desk.Desk.TheSendSync.{the_send}

pub send : IsSend the_row
send = crosses handle the_send
