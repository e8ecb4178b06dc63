use Rattle.adf_record.proofs.Common.{ℕ, ◌++◌, List, refl, ap, ◌∙◌, string_bytes}
use Rattle.adf_record.specs.Second.{to_second}
use Rattle.adf_record.proofs.second.push_second.Goals as goal

pub returns : goal.returns
returns c =
    let old = c.args.text.now.items in
    let whole = string_bytes c.in_ok-whole.whole in
    let is = c.to_second.ensures ∙ ap to_second c.as_bytes.ensures.value in
    (to_second whole, (whole, c.in_ok-whole.ensures, refl), c.in_ok-extend_from_slice.ensures.items ∙ ap (λ (w : List ℕ). old ++ w) is)
