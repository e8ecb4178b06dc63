use Rattle.std.proofs.Common.{sym, ◌∙◌}
use Rattle.ados_volume.proofs.Kept.{found_place}
use Rattle.ados_volume.proofs.places.PlaceCache.of.Goals as goal

pub returns-in-Some : goal.returns-in-Some
returns-in-Some c = found_place c.args.self.now.places.entries c.args.file c.in-Some.place (sym (c.copied.ensures ∙ c.peek.ensures) ∙ c.in-Some.is)
