use Rattle.std.proofs.Common.{refl, ◌∙◌}
use Rattle.ados_model.specs.Stands.{in_slot}
use Rattle.ados_volume.proofs.Looking.{chains_of, next_is}
use Rattle.ados_volume.proofs.Ordered.{entry_place}
use Rattle.ados_volume.proofs.look.next_in.Goals as goal

pub next_at-requires-clause-place : goal.next_at-requires-clause-place
next_at-requires-clause-place c = entry_place c.args.image.now c.args.dir c.args.key (c.requires.listed c.args.dir c.args.key (c.if-is_last.ensures refl))

pub after-requires : goal.after-requires
after-requires c =
    let t = c.requires.tree.0 in
    let s = c.requires.tree.1 in
    (in_slot t c.args.dir, chains_of c.args.image.now t s c.args.dir (c.requires.dir t s))

pub returns-else-is_last : goal.returns-else-is_last
returns-else-is_last c = λ t s.
    c.after.ensures (in_slot t c.args.dir) (chains_of c.args.image.now t s c.args.dir (c.requires.dir t s)) ∙ next_is c.args.image.now t s c.args.dir c.args.key
