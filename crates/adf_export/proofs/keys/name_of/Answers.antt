use Rattle.adf_export.proofs.Common.{ap, sym, ◌∙◌, FileInfo, name_in, some_in}
use Rattle.adf_export.proofs.keys.name_of.Goals as goal

pub returns : goal.returns
returns c = λ t s.
    let n = some_in (t.nodes c.args.key) (c.requires t s) in
    ap (λ (info : FileInfo). info.name) (c.examine.ensures t n.0 s n.1) ∙ sym (ap name_in n.1)
