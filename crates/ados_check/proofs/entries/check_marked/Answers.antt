use Rattle.ados_check.proofs.Common.{◌∙◌, sym}
use Rattle.ados_check.proofs.Reached.{reached_file}
use Rattle.ados_check.proofs.UpperNames.{marked_file}
use Rattle.ados_check.proofs.entries.check_marked.Goals as goal

pub check_file-requires-clause-reached : goal.check_file-requires-clause-reached
check_file-requires-clause-reached c =
    let at = c.in-Some.ensures in
    reached_file c.args.source.now.bytes c.args.marks.now c.requires.image c.requires.reached c.args.block
    (marked_file c.args.marks.now c.args.source.now.bytes c.args.block at.1 (at.0, at.2, at.3, at.4) (sym c.long.ensures ∙ c.if-long.true))

pub returns-in_default : goal.returns-in_default
returns-in_default c = λ dir m e. absurd (c.in_default.ensures dir m)
