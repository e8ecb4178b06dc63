use Rattle.std.proofs.Common.{◌≡◌, ◌-◌, length, ap, ◌∙◌, sym, subst}
use Rattle.std.specs.List.{slice_get}
use Rattle.std.proofs.Common.{Some}
use Rattle.ados_port.specs.declared.step.{Outcome.TheVariants.Taken}
use Rattle.adf_serve.proofs.Asked.{last_of}
use Rattle.adf_serve.proofs.info.last_taken.Goals as goal

pub returns-in-Some-Taken : goal.returns-in-Some-Taken
returns-in-Some-Taken g c =
    (c.in-Some-Taken.reply.number, subst (λ l. slice_get l (length l - 1) ≡ Some (Taken c.in-Some-Taken.reply)) (sym c.in-Some-Taken.ensures.items) (last_of c.pop.new.self.items c.in-Some-Taken.field-0 ∙ ap Some c.in-Some-Taken.field-0-is))
