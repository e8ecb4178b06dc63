use Rattle.std.proofs.Common.{refl}
use Rattle.adf_serve.proofs.Denied.{printed_as}
use Rattle.adf_serve.proofs.explaining.refusal_of.Goals as goal

pub returns-in-InvalidComponentName : goal.returns-in-InvalidComponentName
returns-in-InvalidComponentName c = printed_as c.args.change.now c.args.volume.now.image c.args.refused c.misnamed.result.refused c.misnamed.ensures

pub returns-in-ObjectInUse : goal.returns-in-ObjectInUse
returns-in-ObjectInUse c = printed_as c.args.change.now c.args.volume.now.image c.args.refused c.args.refused refl

pub returns-in_default : goal.returns-in_default
returns-in_default c = printed_as c.args.change.now c.args.volume.now.image c.args.refused c.plain.result.refused c.plain.ensures
