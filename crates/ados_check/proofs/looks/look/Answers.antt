use Rattle.ados_check.proofs.Common.{arith, get_or, sym, subst, ◌∙◌, FaultKind, Shows, NoLink, FIELD_RULES}
use Rattle.ados_check.proofs.Ruling.{field_shows, sound, type_shows}
use Rattle.ados_check.proofs.looks.look.Goals as goal

pub returns-then-has_bad_type : goal.returns-then-has_bad_type
returns-then-has_bad_type c = type_shows c.args.source.now.bytes c.args.block c.args.role c.requires.reached (c.type_evidence.ensures.broken.0 (sym c.is_some-has_bad_type.ensures ∙ c.if-has_bad_type.true))

pub returns-then-is_broken : goal.returns-then-is_broken
returns-then-is_broken c =
    subst (λ (kind : FaultKind). Shows c.args.source.now.bytes kind c.args.block) (sym c.kind.ensures)
    (field_shows c.args.source.now.bytes c.args.block c.args.role (get_or FIELD_RULES c.loop-rule.rule-index NoLink) c.requires.reached (c.field_evidence.ensures.broken.0 (sym c.is_some-is_broken.ensures ∙ c.if-is_broken.true)))

pub returns : goal.returns
returns c =
    sound c.args.source.now.bytes c.args.block c.blocks-2.ensures.image c.requires.inside c.args.role c.requires.reached (λ b. let t = c.if-has_bad_sum.ensures.1 b in cc t)
    (λ b. let t = c.type_evidence.ensures.broken.1 b in cc (t, c.is_some-has_bad_type.ensures, c.if-has_bad_type.false))
    (λ k e l. c.loop-rule.invariant k e (omega (arith, l, c.loop-rule-test.false)))
