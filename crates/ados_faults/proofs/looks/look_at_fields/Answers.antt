use Rattle.ados_faults.proofs.Common.{get_or, sym, subst, ◌∙◌, All-more, All-weaker, HasBadField, SourceView, NoLink, FaultKind, Shows, IsFieldNoted, IsNoted, cell_of, field_shows}
use Rattle.ados_faults.proofs.Cells.{noted_on}
use Rattle.ados_faults.proofs.looks.look_at_fields.Goals as goal

pub note_if-requires-clause-shown : goal.note_if-requires-clause-shown
note_if-requires-clause-shown c = λ w.
    let rule = get_or c.args.rules.now c.loop-rule.rule-index NoLink in
    let bad = subst (λ (s : SourceView). HasBadField s.bytes c.args.block c.args.role rule) c.whole-source.ensures (c.field_evidence.ensures.broken.0 (sym c.is_some-wrong.ensures ∙ w)) in
    subst (λ (kind : FaultKind). Shows c.args.image.now kind c.args.block) (sym c.kind.ensures) (field_shows c.args.image.now c.args.block c.args.role rule c.requires.reached bad)

pub loop-rule-preserved : goal.loop-rule-preserved
loop-rule-preserved c =
    let rule = get_or c.args.rules.now c.loop-rule.rule-index NoLink in
    let old = IsFieldNoted c.args.image.now c.loop-rule.notes.cells.items c.args.block c.args.role in
    let new = IsFieldNoted c.args.image.now c.note_if.new.self.cells.items c.args.block c.args.role in
    record {
      noted = c.note_if.ensures.noted;
      stays = noted_on c.loop-rule.invariant.stays c.note_if.ensures.stays;
      fields = All-more new c.args.rules.now c.loop-rule.rule-index NoLink c.loop-rule-test.true
          (All-weaker old new (λ other is bad. c.note_if.ensures.stays.stay _ (is bad)) _ c.loop-rule.invariant.fields)
          (λ bad.
          let w = c.is_some-wrong.ensures ∙ c.field_evidence.ensures.broken.1 (subst (λ (s : SourceView). HasBadField s.bytes c.args.block c.args.role rule) (sym c.whole-source.ensures) bad) in
          subst (λ (kind : FaultKind). IsNoted c.note_if.new.self.cells.items (cell_of kind c.args.block)) c.kind.ensures (c.note_if.ensures.set w));
    }
