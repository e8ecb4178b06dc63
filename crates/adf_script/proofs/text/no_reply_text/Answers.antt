use Rattle.adf_script.proofs.Common.{ap, sym, ◌∙◌, append_assoc}
use Rattle.adf_script.proofs.text.no_reply_text.Goals as goal

pub returns : goal.returns
returns c = ap (λ v. v.items) c.into_bytes.ensures.value ∙ c.in_ok-text.ensures.ok ∙ sym (simp append_assoc)
