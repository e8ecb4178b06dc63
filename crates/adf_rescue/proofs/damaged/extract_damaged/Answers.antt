use Rattle.std.proofs.Common.{Bool, is_some, subst}
use Rattle.ados_salvage.specs.Holes.{SalvagesBeside}
use Rattle.adf_rescue.proofs.damaged.extract_damaged.Goals as goal

pub returns-clause-told : goal.returns-clause-told
returns-clause-told g c =
    c.in_ok-rescue_of.ensures.told c.args.holes.items (is_some c.args.job.now.bad) c.args.image c.args.job.now.unaccounted
    (subst (λ (listed : Bool). SalvagesBeside c.args.holes.items listed c.args.image c.in_ok-salvage.salvage) c.is_some.ensures c.in_ok-salvage.ensures) c.in_ok-output.ensures
