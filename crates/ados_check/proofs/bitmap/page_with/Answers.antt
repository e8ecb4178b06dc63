use Rattle.ados_check.proofs.Common.{ℕ, ◌+◌, sym, subst, page_of, Tells}
use Rattle.ados_check.proofs.bitmap.page_with.Goals as goal

pub long-requires-clause-told : goal.long-requires-clause-told
long-requires-clause-told c = subst (λ (b : ℕ). Tells c.args.source.now b (79 + page_of c.args.block)) (sym c.root.ensures) (c.requires.told.root (79 + page_of c.args.block))
