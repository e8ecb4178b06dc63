use Rattle.std.proofs.Common.{ℕ, length, ap, subst, sym, arith}
use Rattle.std.proofs.lemmas.Result.{IfOk-weaker}
use Rattle.adf_archive.specs.Suspects.{AreListMarks}
use Rattle.adf_archive.proofs.Marking.{accepted_count, few_marks}
use Rattle.adf_archive.proofs.checking.try_report.Goals as goal

pub accepted-requires : goal.accepted-requires
accepted-requires c =
    let few = few_marks c.args.detail.bad c.blocks-blocks.result c.in-Ok.marks.items c.in-Ok.ensures.marks in
    omega (arith, few, c.blocks-blocks.ensures.count, accepted_count c.args.image c.in-Ok-check.volume.image c.in-Ok-check.volume.was_validated c.in-Ok-check.ensures, ap length c.deref.ensures.value)

pub returns-in-Ok-check : goal.returns-in-Ok-check
returns-in-Ok-check c =
    IfOk-weaker c.accepted.result _ _
    (λ report told. told c.args.image c.in-Ok-check.ensures
    (subst (λ (n : ℕ). AreListMarks c.args.detail.bad n c.deref.result.now) c.blocks-blocks.ensures.count (subst (AreListMarks c.args.detail.bad c.blocks-blocks.result) (sym c.deref.ensures.value) c.in-Ok.ensures.marks)))
    c.accepted.ensures
