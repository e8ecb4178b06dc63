use Rattle.adf_script.proofs.WordList.{unknown}
use Rattle.adf_script.proofs.grammar.read_line.Goals as goal

pub returns-in_default : goal.returns-in_default
returns-in_default c = unknown c.args.values.now c.args.line.now c.cut.result.0.now c.cut.result.1.now c.cut.ensures c.in_default.ensures
