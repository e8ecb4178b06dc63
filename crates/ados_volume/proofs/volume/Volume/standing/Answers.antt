use Rattle.ados_volume.proofs.Bounds.{below_boot}
use Rattle.ados_volume.proofs.Cached.{none, none_whole}
use Rattle.ados_volume.proofs.Known.{none_known}
use Rattle.ados_volume.proofs.Kept.{none_listed}
use Rattle.ados_volume.proofs.volume.Volume.standing.Goals as goal

pub invariant_of-result : goal.invariant_of-result
invariant_of-result c = record {
  tree = c.requires.stands;
  children = none c.args.image c.args.names.pairs c.requires.no_names;
  slots = none_whole c.args.image c.args.names.pairs c.args.names.whole c.requires.no_slots;
  listed = none_listed c.args.image c.args.listed.entries.entries c.requires.no_entries;
  known = none_known c.args.image c.args.places.places.entries c.requires.no_places;
  bound = below_boot c.args.image;
}
