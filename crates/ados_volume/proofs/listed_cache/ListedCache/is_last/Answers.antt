use Rattle.std.proofs.Common.{Contains, eqb-true, ℕ, subst}
use Rattle.ados_volume.proofs.listed_cache.ListedCache.is_last.Goals as goal

pub returns-in-Some : goal.returns-in-Some
returns-in-Some c = λ same. subst (λ (key : ℕ). Contains c.args.self.now.entries.entries (c.args.dir, key)) (eqb-true c.in-Some.last c.args.key same) c.in-Some.ensures
