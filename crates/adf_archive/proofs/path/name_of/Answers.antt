use Rattle.std.proofs.Common.{◌++◌, List, ℕ, sym, ap, ap₂, ◌∙◌}
use Rattle.adf_archive.proofs.Common.{some_in}
use Rattle.ados_model.specs.declared.answer.FileInfo.{FileInfo}
use Rattle.ados_model.specs.Parts.{name_in}
use Rattle.adf_archive.proofs.path.name_of.Goals as goal

pub returns : goal.returns
returns c = λ t s.
    let n = some_in (t.nodes c.args.key) (c.requires t s) in
    let name = c.bytes.ensures.value ∙ ap (λ (i : FileInfo). i.name) (c.examine.ensures t n.0 s n.1) ∙ sym (ap name_in n.1) in
    c.in_ok-extend_from_slice.ensures.items ∙ ap₂ (λ (a b : List ℕ). a ++ b) c.new-name.ensures.items name
