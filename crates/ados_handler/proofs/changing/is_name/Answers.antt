use Rattle.std.proofs.Common.{refl, sym, ap, ◌∙◌, subst}
use Rattle.ados_handler.proofs.Common.{IsName, first_fault, is_named}
use Rattle.ados_handler.proofs.DiskNamed.{unnamed}
use Rattle.ados_handler.proofs.changing.is_name.Goals as goal

pub returns-in-Ok : goal.returns-in-Ok
returns-in-Ok c = sym (is_named c.args.text.now (subst IsName c.bytes.ensures.value ((c.in-Ok.ensures.valid).0 refl)))

pub returns-in-Err : goal.returns-in-Err
returns-in-Err c = sym (unnamed c.args.text.now c.in-Err.field-0 (ap first_fault (sym c.bytes.ensures.value) ∙ c.in-Err.ensures.fault))
