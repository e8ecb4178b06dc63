use Rattle.ados_faults.proofs.Common.{arith, sym}
use Rattle.ados_faults.proofs.Evident.{by_mark}
use Rattle.ados_faults.proofs.values.values_of.Goals as goal

pub returns : goal.returns
returns c =
    by_mark c.args.image.now c.args.marks.now c.args.fault.now.kind c.args.fault.now.block c.in-Some.mark (λ d. let t = c.if-shows_disk.ensures.1 d in cc t) (sym c.in-Some.ensures) c.evidence_in_role.result
    (omega (arith, c.if-fault-blocks.false, c.blocks-2.ensures.count, c.blocks-3.ensures.count)) (c.has_fields.ensures.0 c.if-not-has_fields.false) c.evidence_in_role.ensures
