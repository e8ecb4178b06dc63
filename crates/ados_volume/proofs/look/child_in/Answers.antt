use Rattle.ados_model.specs.Stands.{in_slot}
use Rattle.ados_volume.proofs.Looking.{chains_of, child_is}
use Rattle.ados_volume.proofs.look.child_in.Goals as goal

pub find-requires : goal.find-requires
find-requires c = (in_slot c.requires.tree.0 c.args.dir, chains_of c.args.image.now c.requires.tree.0 c.requires.tree.1 c.args.dir (c.requires.dir c.requires.tree.0 c.requires.tree.1))

pub returns : goal.returns
returns c = λ t s. child_is c.args.image.now t s c.same_name_same_slot.ensures c.args.dir c.args.name.now c.find.result (c.find.ensures (in_slot t c.args.dir) (chains_of c.args.image.now t s c.args.dir (c.requires.dir t s)))
