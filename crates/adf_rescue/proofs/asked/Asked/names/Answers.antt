use Rattle.std.proofs.Common.{ap, ◌∙◌}
use Rattle.std.specs.BTreeSet.{contains_text}
use Rattle.adf_rescue.specs.Undelete.{key_text}
use Rattle.adf_rescue.proofs.asked.Asked.names.Goals as goal

pub returns : goal.returns
returns c = λ keys are.
    c.contains.ensures ∙ ap (contains_text c.args.self.now.keys) (c.as_str.ensures.value ∙ c.in_ok-key.ensures) ∙ are.same (key_text c.args.path.now)
