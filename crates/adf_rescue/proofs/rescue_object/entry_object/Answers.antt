use Rattle.std.proofs.Common.{ℕ, List, ◌++◌, ap₂, ◌∙◌}
use Rattle.json.specs.Token.{Token}
use Rattle.json.specs.Print.{print}
use Rattle.adf_rescue.specs.Reasons.{reason_by}
use Rattle.adf_rescue.specs.RescueObject.{entry_tokens, path_end}
use Rattle.adf_rescue.proofs.TellingObjects.{object_printed}
use Rattle.adf_rescue.proofs.rescue_object.entry_object.Goals as goal

pub returns : goal.returns
returns c =
    let row = c.args.row.now in
    c.into_inner.ensures.items
    ∙ ap₂ (λ (before : List ℕ) (tokens : List Token). before ++ print tokens) (c.in_ok-put_entry.ensures.before ∙ c.new-writer.ensures.before ∙ c.in_ok-comma.ensures)
    (c.in_ok-put_entry.ensures.tokens
    ∙ ap₂ (λ (tokens : List Token) (path : List ℕ). tokens ++ entry_tokens row.image.now row.entry.now (reason_by row.other.now row.doubt) row.deleted row.missing.now path) c.new-writer.ensures.tokens (c.as_str.ensures.value ∙ c.in_ok-path.ensures))
    ∙ object_printed c.args.after row.image.now row.entry.now (reason_by row.other.now row.doubt) row.deleted row.missing.now (c.args.path.now ++ path_end row.entry.now.state)
