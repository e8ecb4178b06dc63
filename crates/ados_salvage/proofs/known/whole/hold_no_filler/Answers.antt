use Rattle.ados_salvage.proofs.KnownCommon.{ℕ, All, subst, take_all}
use Rattle.std.proofs.lemmas.List.Elements.{All-more}
use Rattle.ados_census.specs.Fillers.{HoldsFiller}
use Rattle.ados_salvage.proofs.known.whole.hold_no_filler.Goals as goal

pub returns-then-holds_filler : goal.returns-then-holds_filler
returns-then-holds_filler c = λ none. none c.loop-block.block-index 0 c.loop-block-test.true (c.holds_filler.ensures.0 c.if-holds_filler.true)

pub loop-block-preserved : goal.loop-block-preserved
loop-block-preserved c =
    All-more (λ (block : ℕ). ¬ HoldsFiller c.args.image.now block) c.args.blocks.now c.loop-block.block-index 0 c.loop-block-test.true c.loop-block.invariant
    (λ holds. absurd (cc (c.holds_filler.ensures.1 holds, c.if-holds_filler.false)))

pub returns : goal.returns
returns c = subst (All (λ (block : ℕ). ¬ HoldsFiller c.args.image.now block)) (take_all c.loop-block.block-index c.args.blocks.now c.loop-block-test.false) c.loop-block.invariant
