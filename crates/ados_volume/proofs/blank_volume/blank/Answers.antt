use Rattle.ados_model.specs.Blank.{blank_tree}
use Rattle.ados_model.proofs.Blank.{blank_stands}
use Rattle.ados_volume.proofs.blank_volume.blank.Goals as goal

pub standing-requires : goal.standing-requires
standing-requires c = record {
  stands = (
    blank_tree c.args.format c.args.blocks c.args.name c.args.moment,
    blank_stands c.args.format c.args.blocks c.args.name c.args.moment c.in_ok-image.image c.in_ok-image.ensures.name c.in_ok-image.ensures.image,
  );
  no_names = c.new-names.ensures.pairs;
  no_slots = c.new-names.ensures.whole;
  no_places = c.in_ok-places.ensures;
  no_entries = c.in_ok-listed.ensures;
}
