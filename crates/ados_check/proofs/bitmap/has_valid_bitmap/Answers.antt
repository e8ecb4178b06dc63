use Rattle.ados_check.proofs.Common.{ℕ, sym, subst, Tells}
use Rattle.ados_check.proofs.bitmap.has_valid_bitmap.Goals as goal

pub long-requires-clause-told : goal.long-requires-clause-told
long-requires-clause-told c = subst (λ (block : ℕ). Tells c.args.source.now block 78) (sym c.root.ensures) (c.requires.root 78)
