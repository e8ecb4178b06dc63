use Rattle.adf_block.proofs.Common.{ℕ, List, ◌++◌, ◌∙◌, ap₂, subst, EndsAt}
use Rattle.adf_block.proofs.Showing.{all_lines, lines_of}
use Rattle.adf_block.proofs.code_text.boot_text.Goals as goal

pub returns : goal.returns
returns c =
    let ends = subst (λ (bytes : List ℕ). EndsAt bytes c.end_of.result) c.boot_bytes-bytes.ensures.bytes (c.end_of.ensures.bound, c.end_of.ensures.zeros, c.end_of.ensures.last) in
    let first = c.in_ok-extend_from_slice.ensures.items ∙ ap₂ (λ (a b : List ℕ). a ++ b) c.new-text.ensures.items (c.as_bytes.ensures.value ∙ c.code_line.ensures) in (
      c.boot_code.result,
      c.end_of.result,
      c.boot_code.ensures,
      ends,
      all_lines _ _ _ _ _ _ _ c.in_ok-push_lines.ensures first c.boot_bytes-bytes.ensures.bytes (c.div_ceil.ensures ∙ lines_of c.end_of.result),
    )
