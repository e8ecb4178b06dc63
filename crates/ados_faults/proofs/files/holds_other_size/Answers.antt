use Rattle.ados_faults.proofs.Common.{◌≢◌, sym, subst, arith, file_size, ℕ, Option, IsHeld, SourceView}
use Rattle.adf_block.proofs.Longs.{long-below}
use Rattle.ados_faults.proofs.files.holds_other_size.Goals as goal

pub returns-in-Some : goal.returns-in-Some
returns-in-Some c = λ blocks all.
    let held = subst (λ (o : Option ℕ). IsHeld c.args.image.now blocks o) c.in-Some.is all in
    let low = long-below c.args.image.now c.args.file 81 c.blocks-2.ensures.image in (
      λ t. (held.0, λ e. subst (λ (s : SourceView). c.in-Some.sum ≢ file_size s.bytes c.args.file) c.whole.ensures (c.has_other_size.ensures.0 t) (omega (arith, held.1, e, low))),
      λ h. c.has_other_size.ensures.1 (subst (λ (s : SourceView). c.in-Some.sum ≢ file_size s.bytes c.args.file) (sym c.whole.ensures) (λ e. h.1 (omega (arith, held.1, e, low)))),
    )
