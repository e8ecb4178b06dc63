use Rattle.std.proofs.Common.{arith, subst}
use Rattle.std.specs.Prelude.{All}
use Rattle.std.proofs.lemmas.List.{take_all}
use Rattle.std.proofs.lemmas.List.Elements.{All-more}
use Rattle.ados_census.specs.Classes.{IsOtherThan}
use Rattle.ados_census.specs.declared.class.BlockKind.TheVariants.{FileHeader}
use Rattle.ados_census.specs.declared.class.TheConstants.{BLOCK_KINDS}
use Rattle.ados_census.proofs.Mending.{before_at, each_kind}
use Rattle.ados_census.proofs.class.class_of.Goals as goal

pub returns-in-Some : goal.returns-in-Some
returns-in-Some c = record {
  is_kind = c.in-Some.ensures;
  first = before_at (IsOtherThan c.args.image.now c.args.block) BLOCK_KINDS c.loop-kind.kind-index FileHeader c.loop-kind-test.true c.loop-kind.invariant;
}

pub loop-kind-preserved : goal.loop-kind-preserved
loop-kind-preserved c =
    All-more (IsOtherThan c.args.image.now c.args.block) BLOCK_KINDS c.loop-kind.kind-index FileHeader c.loop-kind-test.true c.loop-kind.invariant c.in_default.ensures

pub returns : goal.returns
returns c =
    each_kind (IsOtherThan c.args.image.now c.args.block)
    (subst (All (IsOtherThan c.args.image.now c.args.block)) (take_all c.loop-kind.kind-index BLOCK_KINDS (omega (arith, c.loop-kind-test.false))) c.loop-kind.invariant)
