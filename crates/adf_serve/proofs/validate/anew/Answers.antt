use Rattle.std.proofs.Common.{subst}
use Rattle.ados_validate.specs.Answer.{IsReason, Validates}
use Rattle.adf_serve.proofs.Bitmaps.{refused_as}
use Rattle.adf_serve.proofs.validate.anew.Goals as goal

pub returns-in-Ok : goal.returns-in-Ok
returns-in-Ok c = subst (Validates c.args.image c.args.force) c.in-Ok.is c.validate.ensures

pub returns-in-Err-OtherFault : goal.returns-in-Err-OtherFault
returns-in-Err-OtherFault c =
    let reason = subst (Validates c.args.image c.args.force) c.in-Err-OtherFault.is c.validate.ensures in
    let shown = subst (IsReason c.args.image c.args.force) c.in-Err-OtherFault.field-0-is reason in
    refused_as c.args.image c.in-Err-OtherFault.fault c.from.result shown.0 c.from.ensures
