use Rattle.ados_volume.specs.steps.Listed.{IsListed}
use Rattle.ados_volume.proofs.Kept.{put_holds}
use Rattle.ados_volume.proofs.listed_cache.ListedCache.keep.Goals as goal

pub returns : goal.returns
returns c = λ image. put_holds (IsListed image) c.args.self.now.entries c.args.dir c.args.key c.put.new.self c.put.result c.put.ensures.entries c.put.ensures.err
