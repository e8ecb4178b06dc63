use Rattle.ados_change.proofs.Common.{List, ℕ, sym, subst, IsName, Titled}
use Rattle.ados_change.proofs.Filled.{titled}
use Rattle.ados_change.proofs.block.put_title.Goals as goal

pub returns-clause-titled : goal.returns-clause-titled
returns-clause-titled c =
    subst (λ (xs : List ℕ). Titled c.args.key c.args.dir xs c.args.image.now c.settle.new.self) c.bytes.ensures.value
    (titled c.args.image.now c.put_text.new.image c.set_long.new.self c.settle.new.self c.args.key c.args.dir c.bytes.result.now (subst IsName (sym c.bytes.ensures.value) c.bytes.ensures.valid)
    c.put_text.ensures.text c.put_text.ensures.rest c.set_long.ensures.rest c.set_long.ensures.long c.settle.ensures.rest c.settle.ensures.sum)
