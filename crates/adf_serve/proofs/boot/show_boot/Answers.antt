use Rattle.std.proofs.Common.{subst, sym}
use Rattle.adf_serve.specs.Texts.{IsBootForm}
use Rattle.adf_serve.specs.declared.fault.CommandFault.TheVariants.{Memory}
use Rattle.adf_serve.proofs.Printing.{tells_no_image, tells_unlisted, told_text}
use Rattle.adf_serve.proofs.boot.show_boot.Goals as goal

pub returns-in_err-image : goal.returns-in_err-image
returns-in_err-image g c = tells_no_image (IsBootForm c.args.json) (IsBootForm c.args.json) _ c.in_err-image.field-0.0 _ c.in_err-image.ensures c.from_residual.ensures.1

pub returns-in_err-text : goal.returns-in_err-text
returns-in_err-text g c = (c.in_ok-image.image, tells_unlisted (IsBootForm c.args.json) (IsBootForm c.args.json) c.in_ok-image.image _ Memory _ tt c.from_residual-in_err-text.ensures.1)

pub returns : goal.returns
returns g c =
    let image = c.in_ok-image.image in (
      image,
      told_text (IsBootForm c.args.json) image _ _ c.deref.result.now c.tell.result (subst (IsBootForm c.args.json image) (sym c.deref.ensures.value) c.in_ok-text.ensures)
          c.tell.ensures.ok c.tell.ensures.front c.tell.ensures.no_refusal,
    )
