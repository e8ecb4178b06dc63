use Rattle.ados_change.proofs.Common.{inl, inr, ◌∙◌, arith, AtTwoLongs, same_weaken, some_in, Summed}
use Rattle.ados_change.proofs.Cases.{protected_stands}
use Rattle.ados_change.proofs.node.put_protection.Goals as goal

pub returns-clause-stands : goal.returns-clause-stands
returns-clause-stands c = λ t s.
    let entry = c.requires.key t s in
    let n = some_in (t.nodes c.args.key) entry.0 in
    let rest = same_weaken (AtTwoLongs c.args.key 80 5) (Summed c.args.key 320 324) c.args.image.now c.set_summed.new.self
    (λ b k at. elim at.1 [ inl long ↦ inl (at.0, omega (arith, long), omega (arith, long)) | inr sum ↦ inr (at.0, sum) ]) c.set_summed.ensures.rest in
    protected_stands c.args.image.now c.set_summed.new.self t s c.args.key n.0 n.1 (c.set_summed.ensures.sum ∙ (s.nodes c.args.key n.0 n.1).sum) c.args.bits.0 entry.1 rest (c.set_summed.ensures.long ∙ c.bits.ensures)
