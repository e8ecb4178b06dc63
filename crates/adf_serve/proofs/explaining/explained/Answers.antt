use Rattle.std.proofs.Common.{refl, sym, subst}
use Rattle.adf_import.specs.declared.fault.InFault.{InFault}
use Rattle.adf_serve.specs.Changed.{HasRefusal}
use Rattle.adf_serve.proofs.Denied.{told_explained}
use Rattle.adf_serve.proofs.explaining.explained.Goals as goal

pub returns-in-Refused : goal.returns-in-Refused
returns-in-Refused c = (c.in-Refused.refused, subst (λ (fault : InFault). HasRefusal fault c.in-Refused.refused) (sym c.in-Refused.is) refl, c.refusal_of.ensures)

pub returns-in_default : goal.returns-in_default
returns-in_default c = told_explained c.args.change.now c.args.volume.now.image c.args.fault c.from.result c.from.ensures
