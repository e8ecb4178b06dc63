use Rattle.adf_archive.proofs.Naming.{last_part, next_part}
use Rattle.adf_archive.proofs.name_list.first_part.Goals as goal

pub returns-in-Some-clause-names : goal.returns-in-Some-clause-names
returns-in-Some-clause-names c = next_part c.args.null c.args.list.now c.in-Some.place c.in-Some.ensures

pub returns-in-None-clause-names : goal.returns-in-None-clause-names
returns-in-None-clause-names c = last_part c.args.null c.args.list.now c.in-None.ensures
