use Rattle.adf_export.specs.Listing.{path_of}
use Rattle.adf_where.proofs.Deep.{long_path}
use Rattle.adf_where.proofs.short_path.short_path.Goals as goal

pub returns-then-is_deep : goal.returns-then-is_deep
returns-then-is_deep c = λ t s. long_path (path_of t c.args.key) (c.is_deep.ensures c.if-is_deep.true t s)
