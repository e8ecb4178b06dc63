use Rattle.std.proofs.Common.{◌∙◌}
use Rattle.ados_volume.proofs.Cached.{found, found_none}
use Rattle.ados_volume.proofs.cache.NameCache.get.Goals as goal

pub returns-clause-found : goal.returns-clause-found
returns-clause-found c = found c.seek.result c.args.dir c.args.name.now c.seek.ensures c.args.self.now.pairs c.copied.result (c.copied.ensures ∙ c.get.ensures.value)

pub returns-clause-none : goal.returns-clause-none
returns-clause-none c = found_none c.seek.result c.args.dir c.args.name.now c.seek.ensures c.args.self.now.pairs c.copied.result (c.copied.ensures ∙ c.get.ensures.value)
