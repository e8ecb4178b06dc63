use Rattle.adf_serve.proofs.Printing.{print_fault, print_text}
use Rattle.adf_serve.proofs.moving.tell_bytes.Goals as goal

pub returns-in-Ok : goal.returns-in-Ok
returns-in-Ok g c = print_text c.args.image _ _ c.in_ok-volume.ensures c.args.path.now _ _ c.in-Ok.ensures.ok

pub returns : goal.returns
returns g c = print_fault c.args.image _ _ c.in_ok-volume.ensures c.args.path.now _ _ c.in-Err.fault c.unprinted.result c.in-Err.ensures.fault c.unprinted.ensures
