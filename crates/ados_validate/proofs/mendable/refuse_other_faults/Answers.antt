use Rattle.ados_validate.proofs.Common.{All, subst, All-contains, IsMendable}
use Rattle.ados_model.specs.declared.fault.VolumeFault.{VolumeFault}
use Rattle.ados_faults.specs.Listed.{fault_of}
use Rattle.ados_validate.proofs.mendable.refuse_other_faults.Goals as goal

pub returns : goal.returns
returns c = λ force kind block shown.
    let faults = c.in-Ok.found.faults.items in
    let all : All (λ (fault : VolumeFault). IsMendable c.args.image.now fault.kind fault.block) faults =
    subst (All (λ (fault : VolumeFault). IsMendable c.args.image.now fault.kind fault.block)) c.deref.ensures.value c.in-None.ensures in
    All-contains (λ (fault : VolumeFault). IsMendable c.args.image.now fault.kind fault.block) faults (fault_of kind block) all (c.in-Ok.ensures.all kind block shown)
