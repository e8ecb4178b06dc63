use Rattle.std.proofs.Common.{◌∙◌}
use Rattle.adf_serve.specs.declared.fault.CommandFault.TheVariants.{Memory}
use Rattle.adf_serve.specs.Texts.{IsCountText}
use Rattle.adf_serve.proofs.Bitmaps.{counted, tells_as, tells_unwritten}
use Rattle.adf_serve.proofs.Printing.{tells_no_image, tells_unlisted, told_text}
use Rattle.adf_serve.proofs.validate.validate_file.Goals as goal

pub returns-in_err-work : goal.returns-in_err-work
returns-in_err-work g c = tells_no_image (IsCountText c.args.json) (IsCountText c.args.json) _ c.in_err-work.field-0.0 _ c.in_err-work.ensures.fault c.from_residual.ensures.1

pub returns-in_err-validated : goal.returns-in_err-validated
returns-in_err-validated g c = (_, tells_as (IsCountText c.args.json) (IsCountText c.args.json) c.in_ok-work.image _ c.in_err-validated.field-0.0 _ c.in_err-validated.ensures c.from_residual-in_err-validated.ensures.1)

pub returns-in_err-text : goal.returns-in_err-text
returns-in_err-text g c = (_, tells_unlisted (IsCountText c.args.json) (IsCountText c.args.json) c.in_ok-work.image _ Memory _ tt c.from_residual-in_err-text.ensures.1)

pub returns-in_err-end : goal.returns-in_err-end
returns-in_err-end g c = (_, tells_unwritten (IsCountText c.args.json) (IsCountText c.args.json) c.in_ok-work.image _ c.in_err-end.field-0.0 _ c.in_err-end.ensures c.from_residual-in_err-end.ensures.1)

pub returns : goal.returns
returns g c =
    let image = c.in_ok-work.image in
    let shown = counted c.args.json image c.args.force c.in_ok-validated.validated c.deref.result.now c.in_ok-validated.ensures (c.deref.ensures.value ∙ c.in_ok-text.ensures) in
    (image, told_text (IsCountText c.args.json) image _ _ c.deref.result.now c.tell.result shown c.tell.ensures.ok c.tell.ensures.front c.tell.ensures.no_refusal)
