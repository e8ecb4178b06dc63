use Rattle.ados_volume.proofs.Kept.{dropped}
use Rattle.ados_volume.proofs.places.PlaceCache.drop_of.Goals as goal

pub returns : goal.returns
returns c = dropped c.args.self.now.places c.pop.new.self c.args.file c.len.ensures.valid.0 c.pop.ensures.entries
