use Rattle.std.proofs.Common.{sym, subst}
use Rattle.ados_port.specs.Ends.{AreEnds}
use Rattle.ados_run.specs.Scripts.{AreUnused}
use Rattle.cases.proofs.staging.run.Goals as goal

pub serve_scripts-requires-clause-all : goal.serve_scripts-requires-clause-all
serve_scripts-requires-clause-all g c κs within = subst (λ l. AreEnds c.in-Ok.handler l) (sym c.in-Ok-assign.ensures.ends) c.in-Ok.ensures.2

pub serve_scripts-requires-clause-unused : goal.serve_scripts-requires-clause-unused
serve_scripts-requires-clause-unused g c κs within =
    subst (λ l. AreUnused l) (sym c.in-Ok-assign.ensures.ends)
    (λ k end at. let fresh = c.in-Ok.ensures.3 k end at in (fresh.0, fresh.1))
