use Rattle.adf_import.proofs.saved_head.head_of.Goals as goal

pub returns-in-Some : goal.returns-in-Some
returns-in-Some c = c.root_head.ensures c.args.moment
