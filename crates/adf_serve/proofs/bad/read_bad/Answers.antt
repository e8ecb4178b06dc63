use Rattle.adf_serve.proofs.bad.read_bad.Goals as goal

pub returns-in-Ok-clause-listed : goal.returns-in-Ok-clause-listed
returns-in-Ok-clause-listed g c = (c.deref.result.now, c.in-Ok.ensures.blocks)
