use Rattle.ados_faults.proofs.Common.{get_or, sym, subst, ◌∙◌, arith, take_all, All-more, All-weaker, All, BreaksRule, SourceView, Sequence, FaultKind, Shows, IsRuleNoted, IsNoted, cell_of, DATA_RULES}
use Rattle.ados_check.proofs.DataRuling.{data_shows, each_rule}
use Rattle.ados_faults.proofs.Cells.{noted_on}
use Rattle.ados_faults.proofs.pieces.look_at_place.Goals as goal

pub note_if-requires-clause-shown : goal.note_if-requires-clause-shown
note_if-requires-clause-shown c = λ w.
    let rule = get_or DATA_RULES c.loop-rule.rule-index Sequence in
    let bad = subst (λ (s : SourceView). BreaksRule s.bytes c.args.place rule) c.whole-source.ensures (c.data_evidence.ensures.broken.0 (sym c.is_some-broken.ensures ∙ w)) in
    subst (λ (kind : FaultKind). Shows c.args.image.now kind c.args.place.block) (sym c.kind.ensures) (data_shows c.args.image.now c.args.place c.requires.at c.requires.ofs (c.is_inside.ensures.0 c.if-not-is_inside.false) rule bad)

pub loop-rule-preserved : goal.loop-rule-preserved
loop-rule-preserved c =
    let rule = get_or DATA_RULES c.loop-rule.rule-index Sequence in
    let old = IsRuleNoted c.args.image.now c.loop-rule.notes.cells.items c.args.place in
    let new = IsRuleNoted c.args.image.now c.note_if.new.self.cells.items c.args.place in
    record {
      noted = c.note_if.ensures.noted;
      stays = noted_on c.loop-rule.invariant.stays c.note_if.ensures.stays;
      rules = All-more new DATA_RULES c.loop-rule.rule-index Sequence c.loop-rule-test.true
          (All-weaker old new (λ other is bad. c.note_if.ensures.stays.stay _ (is bad)) _ c.loop-rule.invariant.rules)
          (λ bad.
          let w = c.is_some-broken.ensures ∙ c.data_evidence.ensures.broken.1 (subst (λ (s : SourceView). BreaksRule s.bytes c.args.place rule) (sym c.whole-source.ensures) bad) in
          subst (λ (kind : FaultKind). IsNoted c.note_if.new.self.cells.items (cell_of kind c.args.place.block)) c.kind.ensures (c.note_if.ensures.set w));
    }

pub returns-clause-placed : goal.returns-clause-placed
returns-clause-placed c = λ _. record {
  each = each_rule (IsRuleNoted c.args.image.now c.loop-rule.notes.cells.items c.args.place)
      (subst (All (IsRuleNoted c.args.image.now c.loop-rule.notes.cells.items c.args.place)) (take_all c.loop-rule.rule-index DATA_RULES (omega (arith, c.loop-rule-test.false))) c.loop-rule.invariant.rules);
}
