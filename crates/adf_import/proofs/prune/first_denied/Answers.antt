use Rattle.std.proofs.Common.{get_or, sym, ◌∙◌, arith}
use Rattle.adf_import.proofs.Common.{Contains-get_or}
use Rattle.adf_import.proofs.Denying.{below_denied, itself_denied, none_denied}
use Rattle.adf_import.proofs.KeysBelow.{key_there}
use Rattle.adf_import.proofs.prune.first_denied.Goals as goal

pub is_denied-requires : goal.is_denied-requires
is_denied-requires c = λ t s.
    key_there t s.proper c.args.key c.args.below.now (c.requires.below t s) (get_or c.args.below.now c.loop-entry.entry-index 0)
    (Contains-get_or c.args.below.now c.loop-entry.entry-index 0 (omega arith))

pub returns-then-is_denied : goal.returns-then-is_denied
returns-then-is_denied c = (
  λ t s.
      key_there t s.proper c.args.key c.args.below.now (c.requires.below t s) (get_or c.args.below.now c.loop-entry.entry-index 0)
      (Contains-get_or c.args.below.now c.loop-entry.entry-index 0 (omega arith)),
  λ t s.
      below_denied t s.proper c.args.key c.args.force c.args.below.now (c.requires.below t s) (get_or c.args.below.now c.loop-entry.entry-index 0)
      (Contains-get_or c.args.below.now c.loop-entry.entry-index 0 (omega arith)) (sym (c.is_denied.ensures t s) ∙ c.if-is_denied.true),
)

pub returns-then-is_denied-2 : goal.returns-then-is_denied-2
returns-then-is_denied-2 c = (
  c.requires.key,
  λ t s. itself_denied t s.proper c.args.key c.args.force c.args.below.now (c.requires.below t s) (sym (c.is_denied-2.ensures t s) ∙ c.if-is_denied-2.true),
)

pub returns : goal.returns
returns c = λ t s.
    none_denied t s.proper c.args.key c.args.force c.args.below.now (c.requires.below t s)
    (λ i inside. c.loop-entry.invariant t s i (omega (arith, inside, c.loop-entry-test.false)))
    (sym (c.is_denied-2.ensures t s) ∙ c.if-is_denied-2.false)
