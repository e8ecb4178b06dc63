use Rattle.ados_check.proofs.Common.{◌≡◌, ◌-◌, sym, ap, ◌∙◌, arith, long, extension_pointer, further_extension}
use Rattle.ados_check.proofs.PlaceLemmas.{is_only}
use Rattle.ados_check.proofs.places.extension_place.Goals as goal

pub returns-then-is_pointer : goal.returns-then-is_pointer
returns-then-is_pointer c =
    let at = c.is_pointer.ensures.0 c.if-is_pointer.true in
    let e : 77 - (77 - c.args.i) ≡ c.args.i = omega (arith, at.0) in
    is_only e (extension_pointer at.1)

pub returns-then-long-ne0 : goal.returns-then-long-ne0
returns-then-long-ne0 c =
    let here = c.if-i-eq-NEXT_EXTENSION.true in
    is_only (sym here) (further_extension (λ z. c.if-long-ne0.true (c.long.ensures ∙ ap (long c.args.source.now.bytes c.args.block) here ∙ z)))
