use Rattle.std.proofs.Common.{◌<◌, length, ap, arith}
use Rattle.adf_c.proofs.Saving.{an_entry}
use Rattle.adf_c.proofs.salvage.bytes_in.Goals as goal

pub returns-in-Ok : goal.returns-in-Ok
returns-in-Ok c =
    let same = ap length c.entries.ensures in
    let within : c.args.place < length c.args.saved.now.entries = omega (arith, c.if-place-entries.false, same) in
    let entry = an_entry c.args.saved.now.entries c.args.place within in
    record { entry = entry.0; within = within; at = entry.1; fact = c.in-Ok.ensures entry.0 entry.1 }
