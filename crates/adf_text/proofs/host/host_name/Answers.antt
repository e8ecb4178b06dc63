use Rattle.adf_text.proofs.Common.{◌≡◌, ap, ◌∙◌, IfOk-weaker, string_bytes, letters, host_letters, IsHostName}
use Rattle.adf_text.proofs.HostLemmas.{IsHostName-text}
use Rattle.adf_text.proofs.host.host_name.Goals as goal

pub returns-clause-fit : goal.returns-clause-fit
returns-clause-fit c =
    let name = c.args.name.now in
    let shown = c.deref.result.now in
    let made : shown ≡ host_letters name = c.deref.ensures.value ∙ c.in_ok-host_letters.ensures ∙ ap host_letters c.bytes.ensures.value in
    IfOk-weaker c.letter_text.result (λ text. string_bytes text ≡ letters shown) (λ text. IsHostName (string_bytes text))
    (λ text spelled. IsHostName-text name shown (string_bytes text) c.bytes.ensures.valid made spelled) c.letter_text.ensures
