use Rattle.std.proofs.Common.{Bool, ap, ◌∙◌}
use Rattle.adf_cli.specs.Lists.{form_of}
use Rattle.adf_cli.proofs.taking.list_form.Goals as goal

pub returns : goal.returns
returns c = λ long json letters is_long is_json is_letters.
    c.form_of.ensures
    ∙ ap (λ (b : Bool). form_of b c.flag-json.result c.flag.result) (c.flag-long.ensures.value long is_long)
    ∙ ap (λ (b : Bool). form_of long b c.flag.result) (c.flag-json.ensures.value json is_json)
    ∙ ap (λ (b : Bool). form_of long json b) (c.flag.ensures.value letters is_letters)
