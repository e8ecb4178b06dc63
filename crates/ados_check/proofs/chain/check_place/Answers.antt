use Rattle.ados_check.proofs.Common.{get_or, sym, subst, ◌∙◌, FaultKind, Shows, Sequence, DATA_RULES}
use Rattle.ados_check.proofs.DataRuling.{data_shows}
use Rattle.ados_check.proofs.chain.check_place.Goals as goal

pub returns-then-is_broken : goal.returns-then-is_broken
returns-then-is_broken c =
    subst (λ (kind : FaultKind). Shows c.args.source.now.bytes kind c.args.place.block) (sym c.kind.ensures)
    (data_shows c.args.source.now.bytes c.args.place c.requires.at c.requires.ofs c.requires.inside (get_or DATA_RULES c.loop-rule.rule-index Sequence) (c.data_evidence.ensures.broken.0 (sym c.is_some-is_broken.ensures ∙ c.if-is_broken.true)))
