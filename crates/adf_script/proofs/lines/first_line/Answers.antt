use Rattle.adf_script.proofs.Common.{ap, ◌∙◌, lines_of}
use Rattle.adf_script.proofs.LineLemmas.{lines_of-ended, lines_of-last}
use Rattle.adf_script.proofs.lines.first_line.Goals as goal

pub returns-in-Some-clause-lines : goal.returns-in-Some-clause-lines
returns-in-Some-clause-lines c = ap lines_of c.in-Some.ensures.0 ∙ lines_of-ended c.in-Some.parts.0.now c.in-Some.parts.1.now c.in-Some.ensures.1

pub returns-in-None-clause-lines : goal.returns-in-None-clause-lines
returns-in-None-clause-lines c = lines_of-last c.args.script.now c.in-None.ensures c.requires
