use Rattle.ados_salvage.proofs.Common.{refl, on_ok_weaker}
use Rattle.ados_salvage.proofs.Finding.{adds_none, adds_one}
use Rattle.ados_salvage.proofs.unreached.add_found.Goals as goal

pub returns-then-not-is_new-clause-found : goal.returns-then-not-is_new-clause-found
returns-then-not-is_new-clause-found c = adds_none c.args.known.now c.args.gathered.now c.args.gathered.now refl

pub returns-clause-found : goal.returns-clause-found
returns-clause-found c = on_ok_weaker c.add.result (λ one. adds_one c.args.known.now c.args.gathered.now _ one) c.add.ensures.added
