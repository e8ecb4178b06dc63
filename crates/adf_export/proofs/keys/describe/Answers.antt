use Rattle.adf_export.proofs.Common.{sym, ap, ◌∙◌, FileInfo, some_in}
use Rattle.adf_export.proofs.Directories.{told_directory}
use Rattle.adf_export.proofs.keys.describe.Goals as goal

pub returns-clause-directory : goal.returns-clause-directory
returns-clause-directory c = λ h t s.
    let n = some_in (t.nodes c.args.key) (c.requires t s) in
    told_directory t c.args.key n.0 n.1 (sym (ap (λ (info : FileInfo). info.entry_type) (c.examine.ensures t n.0 s n.1)) ∙ h)
