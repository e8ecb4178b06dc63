use Rattle.std.proofs.Common.{ℕ, refl, sym, ap₂, subst, arith}
use Rattle.ados_census.specs.steps.Marks.{IsMarked}
use Rattle.ados_census.specs.steps.Reaching.{cell}
use Rattle.ados_model.specs.Faults.{InImage, IsPlace, Reached}
use Rattle.ados_model.specs.Faults.Reached.{named}
use Rattle.std.proofs.lemmas.Option.{none-some, same_Some}
use Rattle.ados_check.specs.Source.{SourceView}
use Rattle.ados_census.proofs.reached.Walk.visit.Goals as goal

pub take-requires-clause-step : goal.take-requires-clause-step
take-requires-clause-step c =
    let place = subst (λ (s : SourceView). IsPlace s.bytes c.args.step.block c.args.step.role c.args.i c.in-Some.role) c.whole-source.ensures ((c.in-Some.ensures c.in-Some.role).0 refl) in
    let inside : InImage c.args.image.now c.long-block.result = (omega (arith, c.if-block-lt-BOOT_BLOCKS.false), omega (arith, c.if-block-blocks.false, c.blocks-else-block-lt-BOOT_BLOCKS.ensures.count)) in
    record {
      inside = inside;
      reached = subst (λ (b : ℕ). Reached c.args.image.now b c.in-Some.role) (sym c.long-block.ensures) (named c.requires.step.reached place (subst (InImage c.args.image.now) c.long-block.ensures inside));
    }

pub returns-in_default-clause-passed : goal.returns-in_default-clause-passed
returns-in_default-clause-passed c = λ next place inside.
    absurd (none-some next ((c.in_default.ensures next).1 (subst (λ (s : SourceView). IsPlace s.bytes c.args.step.block c.args.step.role c.args.i next) (sym c.whole-source.ensures) place)))

pub returns-clause-passed : goal.returns-clause-passed
returns-clause-passed c = λ next place inside.
    let same = same_Some c.in-Some.role next ((c.in-Some.ensures next).1 (subst (λ (s : SourceView). IsPlace s.bytes c.args.step.block c.args.step.role c.args.i next) (sym c.whole-source.ensures) place)) in
    subst (IsMarked c.take.new.self.cells.items) (ap₂ cell c.long-block.ensures same) c.in_ok-take.ensures.taken
