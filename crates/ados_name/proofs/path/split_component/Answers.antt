use Rattle.ados_name.proofs.Common.{is_slash}
use Rattle.ados_name.proofs.SeparatorLemmas.{before-found, after-found, before-none, after-none}
use Rattle.ados_name.proofs.path.split_component.Goals as goal

pub returns-in-Some-clause-component : goal.returns-in-Some-clause-component
returns-in-Some-clause-component c = before-found is_slash c.args.walked.now c.in-Some.at c.in-Some.ensures

pub returns-in-Some-clause-rest : goal.returns-in-Some-clause-rest
returns-in-Some-clause-rest c = after-found is_slash c.args.walked.now c.in-Some.at c.in-Some.ensures

pub returns-in-None-clause-component : goal.returns-in-None-clause-component
returns-in-None-clause-component c = before-none is_slash c.args.walked.now c.in-None.ensures

pub returns-in-None-clause-rest : goal.returns-in-None-clause-rest
returns-in-None-clause-rest c = after-none is_slash c.args.walked.now c.in-None.ensures
