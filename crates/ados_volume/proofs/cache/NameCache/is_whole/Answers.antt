use Rattle.std.specs.Ordering.{nat_cmp}
use Rattle.std.specs.BTreeSet.{contains}
use Rattle.ados_volume.proofs.Common.{ap, sym, ◌∙◌}
use Rattle.ados_volume.proofs.cache.NameCache.is_whole.Goals as goal

pub returns : goal.returns
returns c = λ whole. ap (contains nat_cmp c.args.self.now.whole) (sym c.slot_number.ensures) ∙ sym c.contains.ensures ∙ whole
