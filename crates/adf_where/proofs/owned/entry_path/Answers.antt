use Rattle.adf_where.proofs.Common.{sym, ◌∙◌}
use Rattle.adf_where.proofs.Belonging.{owned_node}
use Rattle.adf_where.proofs.owned.entry_path.Goals as goal

pub short_path-requires : goal.short_path-requires
short_path-requires c = λ t s. owned_node c.args.volume.now.image t c.args.block c.args.owner c.in-Some.key (c.requires t s) (sym c.entry_of.ensures ∙ c.in-Some.is)
