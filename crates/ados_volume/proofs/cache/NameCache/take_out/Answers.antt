use Rattle.ados_volume.proofs.Cached.{taken_out}
use Rattle.ados_volume.proofs.cache.NameCache.take_out.Goals as goal

pub returns-clause-pairs : goal.returns-clause-pairs
returns-clause-pairs c = taken_out c.seek.result c.args.dir c.args.name.now c.seek.ensures c.args.self.now.pairs c.remove.new.self c.remove.ensures.updates
