use Rattle.std.proofs.Common.{ap}
use Rattle.adf_io.proofs.Inputs.{refused_all}
use Rattle.adf_io.proofs.load.load_image_with_room.Goals as goal

pub returns-in-Err-clause-err : goal.returns-in-Err-clause-err
returns-in-Err-clause-err g c =
    let refused = c.in-Err.ensures.err in
    refused_all _ _ c.in_ok-file.file.items c.in-Err.refused c.in_ok-file.ensures.ok c.in_ok-file.ensures.within (ap (λ v. v.items) refused.0) refused.1
