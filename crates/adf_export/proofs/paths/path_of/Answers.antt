use Rattle.adf_export.proofs.Common.{◌++◌, List, ℕ, ap₂, ◌∙◌}
use Rattle.adf_export.proofs.paths.path_of.Goals as goal

pub returns : goal.returns
returns c = λ t s.
    c.in_ok-extend_from_slice.ensures.items ∙ ap₂ (λ (a b : List ℕ). a ++ b) (c.in_ok-path.ensures t s) (c.bytes.ensures.value ∙ c.name_of.ensures t s)
