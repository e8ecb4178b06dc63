use Rattle.std.proofs.Common.{◌∙◌}
use Rattle.ados_volume.proofs.Kept.{found_last}
use Rattle.ados_volume.proofs.listed_cache.ListedCache.last.Goals as goal

pub returns : goal.returns
returns c = found_last c.args.self.now.entries.entries c.args.dir c.copied.result (c.copied.ensures ∙ c.peek.ensures)
