use Rattle.std.proofs.Common.{sym, subst, ◌∙◌}
use Rattle.adf_serve.specs.NewImages.{IsMade}
use Rattle.adf_serve.specs.declared.fault.CommandFault.TheVariants.{Memory}
use Rattle.adf_serve.proofs.Printing.{begins_made, made_put, unput}
use Rattle.adf_serve.proofs.output.put_image.Goals as goal

pub returns-in_err-bytes-clause-written : goal.returns-in_err-bytes-clause-written
returns-in_err-bytes-clause-written g c = λ made is. unput made _ Memory _ c.from_residual.ensures.1

pub returns-clause-written : goal.returns-clause-written
returns-clause-written g c = λ made is.
    let whole = begins_made made c.args.image.now c.args.behind.now is c.in_ok-bytes.ensures.image in
    made_put made _ _ c.deref.result.now c.tell.result (subst (IsMade made) (sym (c.deref.ensures.value ∙ c.in_ok-bytes.ensures.bytes)) whole) c.tell.ensures.ok c.tell.ensures.front c.tell.ensures.no_refusal
