use Rattle.ados_salvage.proofs.Common.{List, ℕ, inl, sym, subst}
use Rattle.ados_model.specs.declared.role.Role.TheVariants.{Data}
use Rattle.ados_model.specs.Faults.{Reached}
use Rattle.ados_salvage.proofs.holes.is_reached_filler.Goals as goal

pub returns-then-not-holds_filler : goal.returns-then-not-holds_filler
returns-then-not-holds_filler c = λ same file reached holds. absurd (cc (c.holds_filler.ensures.1 holds, c.if-not-holds_filler.true))

pub returns : goal.returns
returns c = λ same file reached holds.
    (rw same at c.has_leaf.ensures) (inl (file, subst (λ (image : List ℕ). Reached image c.args.block (Data file)) (sym c.requires.reached) reached))
