use Rattle.ados_faults.proofs.Common.{arith}
use Rattle.ados_faults.proofs.OtherKinds.{no_dos_disk, no_other, unsupported}
use Rattle.ados_faults.proofs.kinds.other_kind.Goals as goal

pub returns-in-Ofs : goal.returns-in-Ofs
returns-in-Ofs c = no_other c.args.image.now c.boot_kind.result (omega arith) c.boot_kind.ensures c.in-Ofs.is

pub returns-in-OtherDos : goal.returns-in-OtherDos
returns-in-OtherDos c = unsupported c.args.image.now c.in-OtherDos.field-0 (omega arith) c.in-OtherDos.ensures

pub returns-in-NotDos : goal.returns-in-NotDos
returns-in-NotDos c = no_dos_disk c.args.image.now (omega arith) c.in-NotDos.ensures
