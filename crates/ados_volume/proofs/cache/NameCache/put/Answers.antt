use Rattle.ados_volume.proofs.Common.{Bool, subst, sym}
use Rattle.ados_volume.specs.steps.Cache.{Puts}
use Rattle.ados_volume.proofs.Cached.{put_pair}
use Rattle.ados_volume.proofs.cache.NameCache.put.Goals as goal

pub returns-clause-pairs : goal.returns-clause-pairs
returns-clause-pairs c =
    subst (λ (done : Bool). Puts c.args.self.now.pairs c.args.dir c.args.name.now c.args.key c.insert.new.self done) (sym c.is_ok.ensures.value)
    (put_pair c.seek.result c.args.dir c.args.name.now c.seek.ensures c.args.self.now.pairs c.insert.new.self c.args.key c.insert.result c.insert.ensures.updates c.insert.ensures.err)
