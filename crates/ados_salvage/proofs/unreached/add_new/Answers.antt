use Rattle.ados_salvage.proofs.Common.{refl}
use Rattle.ados_salvage.proofs.Finding.{adds_none}
use Rattle.ados_salvage.proofs.unreached.add_new.Goals as goal

pub returns-then-not-is_new-clause-found : goal.returns-then-not-is_new-clause-found
returns-then-not-is_new-clause-found c = adds_none c.args.known.now c.args.gathered.now c.args.gathered.now refl
