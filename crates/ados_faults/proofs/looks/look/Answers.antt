use Rattle.ados_faults.proofs.Common.{sym, subst, ◌∙◌, All-weaker, HasBadSumAs, HasBadTypeAs, SourceView, AreWrongsNoted, IsFieldNoted, FIELD_RULES, type_shows}
use Rattle.ados_faults.proofs.Cells.{noted_on}
use Rattle.ados_faults.proofs.Looking.{bare_noted, fields_noted}
use Rattle.ados_faults.proofs.looks.look.Goals as goal

pub note_if-requires-2-clause-shown : goal.note_if-requires-2-clause-shown
note_if-requires-2-clause-shown c = λ w.
    type_shows c.args.image.now c.args.block c.args.role c.requires.reached
    (subst (λ (s : SourceView). HasBadTypeAs s.bytes c.args.block c.args.role) c.whole-source.ensures (c.type_evidence.ensures.broken.0 (sym c.is_some-types.ensures ∙ w)))

pub returns-in-Data-clause-whole : goal.returns-in-Data-clause-whole
returns-in-Data-clause-whole c =
    subst (AreWrongsNoted c.args.image.now c.args.notes.now.cells.items c.args.block) (sym c.in-Data.is)
    (bare_noted c.args.image.now c.args.notes.now.cells.items c.args.block c.in-Data.field-0 (λ ofs. c.if-byte-ne0.true (c.byte.ensures ∙ ofs)))

pub returns-clause-whole : goal.returns-clause-whole
returns-clause-whole c =
    let s4 = c.look_at_fields-2.ensures.stays in
    let s3 = noted_on c.look_at_fields.ensures.stays s4 in
    let s2 = noted_on c.note_if-2.ensures.stays s3 in
    let early = IsFieldNoted c.args.image.now c.look_at_fields.new.notes.cells.items c.args.block c.args.role in
    let last = IsFieldNoted c.args.image.now c.look_at_fields-2.new.notes.cells.items c.args.block c.args.role in
    record {
      sum = λ h. s2.stay _ (c.note_if.ensures.set (c.has_bad_sum-sum.ensures.1 (subst (λ (s : SourceView). HasBadSumAs s.bytes c.args.block c.args.role) (sym c.whole-source.ensures) h)));
      types = λ h. s3.stay _ (c.note_if-2.ensures.set (c.is_some-types.ensures ∙ c.type_evidence.ensures.broken.1 (subst (λ (s : SourceView). HasBadTypeAs s.bytes c.args.block c.args.role) (sym c.whole-source.ensures) h)));
      fields = fields_noted c.args.image.now c.look_at_fields-2.new.notes.cells.items c.args.block c.args.role (All-weaker early last (λ rule is bad. s4.stay _ (is bad)) FIELD_RULES c.look_at_fields.ensures.fields) c.look_at_fields-2.ensures.fields;
    }
