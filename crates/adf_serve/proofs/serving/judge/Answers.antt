use Rattle.adf_script.specs.declared.ending.ClientEnding.TheVariants as ending
use Rattle.adf_serve.proofs.Clients.{all_done, none_ended, some_ended}
use Rattle.adf_serve.proofs.serving.judge.Goals as goal

pub returns-then-has_run_out : goal.returns-then-has_run_out
returns-then-has_run_out c = some_ended c.args.texts.now ending.Tries c.if-has_run_out.ensures

pub returns-then-has_faulty : goal.returns-then-has_faulty
returns-then-has_faulty c = (some_ended c.args.texts.now ending.Script c.if-has_faulty.ensures, none_ended c.args.texts.now ending.Tries c.if-has_run_out.ensures)

pub returns : goal.returns
returns c = all_done c.args.texts.now c.if-has_run_out.ensures c.if-has_faulty.ensures
