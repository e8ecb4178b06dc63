use Rattle.std.proofs.Common.{◌≡◌, ◌++◌, sym, ◌∙◌}
use Rattle.std.proofs.lemmas.Result.{IfOk-weaker}
use Rattle.json.specs.Print.{print_from}
use Rattle.adf_rescue.specs.Reasons.{reason_by}
use Rattle.adf_rescue.specs.RescueObject.{entry_tokens, path_end}
use Rattle.adf_rescue.specs.steps.Reporting.{IsPart}
use Rattle.adf_rescue.proofs.TellingObjects.{object_told}
use Rattle.adf_rescue.proofs.damaged.Rescue.part_at.Goals as goal

pub returns-then-json : goal.returns-then-json
returns-then-json c =
    let row = c.row_at-row.result in
    let told = c.row_at-row.ensures in
    IfOk-weaker c.entry_object.result (λ text. text.items ≡ print_from c.args.after (entry_tokens row.image.now row.entry.now (reason_by row.other.now row.doubt) row.deleted row.missing.now (c.as_str-then-json.result.now ++ path_end row.entry.now.state)))
    (λ part. IsPart c.args.json c.args.self.now c.args.after c.args.place c.args.entry.now part.items)
    (λ text is.
    object_told c.args.json c.args.self.now c.args.after c.args.place c.args.entry.now row.image.now row.entry.now row.doubt row.other.now row.deleted row.missing.now c.as_str-then-json.result.now text.items c.if-json.true (sym c.is_told.ensures ∙ c.if-not-is_told.false)
    told.image told.entry told.doubt told.deleted told.missing is)
    c.entry_object.ensures
