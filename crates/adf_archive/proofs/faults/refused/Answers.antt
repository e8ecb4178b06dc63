use Rattle.std.proofs.Common.{List, sym, subst, arith}
use Rattle.adf_archive.proofs.Common.{AreAllFaults, VolumeFault}
use Rattle.adf_archive.proofs.faults.refused.Goals as goal

pub told-requires-clause-found : goal.told-requires-clause-found
told-requires-clause-found c =
    let found = c.in_ok-found.ensures in
    record { alone = found.alone (omega arith); each = found.each; first = found.first }

pub told-requires-clause-each : goal.told-requires-clause-each
told-requires-clause-each c = λ wanted.
    let found = c.in_ok-found.ensures in
    subst (λ (faults : List VolumeFault). AreAllFaults c.args.image.now 1000 c.in_ok-found.found.more faults) (sym c.deref.ensures.value)
    (record { alone = found.alone (omega arith); each = found.each; first = found.first })

pub told-requires-2-clause-found : goal.told-requires-2-clause-found
told-requires-2-clause-found c =
    let found = c.in_ok-found.ensures in
    record { alone = found.alone (omega arith); each = found.each; first = found.first }
