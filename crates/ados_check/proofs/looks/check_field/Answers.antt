use Rattle.ados_check.proofs.Common.{sym, subst, ◌∙◌, FaultKind, Shows}
use Rattle.ados_check.proofs.Ruling.{field_shows}
use Rattle.ados_check.proofs.looks.check_field.Goals as goal

pub returns-then-is_broken : goal.returns-then-is_broken
returns-then-is_broken c =
    subst (λ (kind : FaultKind). Shows c.args.source.now.bytes kind c.args.block) (sym c.kind.ensures)
    (field_shows c.args.source.now.bytes c.args.block c.args.role c.args.rule c.requires.reached (c.field_evidence.ensures.broken.0 (sym c.is_some-is_broken.ensures ∙ c.if-is_broken.true)))
