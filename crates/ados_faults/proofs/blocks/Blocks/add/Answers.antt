use Rattle.ados_faults.proofs.Common.{◌<◌, ℕ, List, length, true, inl, inr, set, refl, sym, subst, arith, ◌∙◌, Contains, false≢true, Contains-push, AreMet}
use Rattle.ados_faults.proofs.Enumerated.{cell_read, met_more}
use Rattle.ados_faults.proofs.blocks.Blocks.add.Goals as goal

pub returns-then-not-is_inside-clause-grown : goal.returns-then-not-is_inside-clause-grown
returns-then-not-is_inside-clause-grown c = inl refl

pub returns-then-not-is_inside-clause-there : goal.returns-then-not-is_inside-clause-there
returns-then-not-is_inside-clause-there c = λ inside. absurd (false≢true (sym c.if-not-is_inside.true ∙ c.is_inside.ensures.1 inside))

pub returns-then-index-clause-grown : goal.returns-then-index-clause-grown
returns-then-index-clause-grown c = inl refl

pub returns-then-index-clause-there : goal.returns-then-index-clause-there
returns-then-index-clause-there c = λ inside.
    let has = c.args.self.now.has.items in
    let within : c.args.block < length has = omega (arith, inside.1, c.requires.size) in
    c.requires.listed c.args.block (cell_read has c.args.block c.index.result.now within c.index.ensures ∙ c.if-index.true)

pub returns-clause-met : goal.returns-clause-met
returns-clause-met c =
    subst (AreMet c.args.image.now (set c.args.self.now.has.items c.args.block true)) (sym c.in_ok-push.ensures.items)
    (met_more c.args.image.now c.args.self.now.has.items c.args.self.now.list.items c.args.block c.requires (c.if-not-is_inside.ensures.0 refl))

pub returns-clause-grown : goal.returns-clause-grown
returns-clause-grown c = inr (c.if-not-is_inside.ensures.0 refl, c.in_ok-push.ensures.items)

pub returns-clause-there : goal.returns-clause-there
returns-clause-there c = λ _. subst (λ (xs : List ℕ). Contains xs c.args.block) (sym c.in_ok-push.ensures.items) (Contains-push c.args.self.now.list.items c.args.block)

pub returns-clause-fresh : goal.returns-clause-fresh
returns-clause-fresh c = λ _ there.
    let has = c.args.self.now.has.items in
    let inside = c.if-not-is_inside.ensures.0 refl in
    let within : c.args.block < length has = omega (arith, inside.1, c.requires.size) in
    false≢true (sym (cell_read has c.args.block c.index.result.now within c.index.ensures ∙ c.if-index.false) ∙ c.requires.held c.args.block there)
