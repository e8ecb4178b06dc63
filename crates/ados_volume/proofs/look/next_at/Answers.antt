use Rattle.ados_volume.proofs.Common.{ap, entries_after, first_left, in_slot, sym, ℕ, ◌∙◌}
use Rattle.ados_volume.proofs.Looking.{chains_of, listed_in_chains, next_is}
use Rattle.ados_volume.proofs.Ordered.{place_listed}
use Rattle.ados_volume.proofs.look.next_at.Goals as goal

pub after-requires : goal.after-requires
after-requires c =
    let t = c.requires.tree.0 in
    let s = c.requires.tree.1 in
    (in_slot t c.args.dir, chains_of c.args.image.now t s c.args.dir (c.requires.dir t s))

pub returns-then-key-dir : goal.returns-then-key-dir
returns-then-key-dir c = λ t s.
    c.after.ensures (in_slot t c.args.dir) (chains_of c.args.image.now t s c.args.dir (c.requires.dir t s)) ∙ next_is c.args.image.now t s c.args.dir c.args.dir ∙ ap (λ (k : ℕ). first_left (entries_after t c.args.dir k)) (sym c.if-key-dir.true)

pub after_entry-requires-clause-chains : goal.after_entry-requires-clause-chains
after_entry-requires-clause-chains c =
    let t = c.requires.tree.0 in
    let s = c.requires.tree.1 in
    (in_slot t c.args.dir, chains_of c.args.image.now t s c.args.dir (c.requires.dir t s))

pub after_entry-requires-clause-entry : goal.after_entry-requires-clause-entry
after_entry-requires-clause-entry c =
    let t = c.requires.tree.0 in
    let s = c.requires.tree.1 in
    listed_in_chains c.args.image.now t s c.args.dir c.args.key (c.requires.dir t s) (place_listed c.args.image.now c.args.dir c.args.key c.if-key-dir.false c.requires.place t s)

pub returns-else-key-dir : goal.returns-else-key-dir
returns-else-key-dir c = λ t s.
    c.after_entry.ensures (in_slot t c.args.dir) (chains_of c.args.image.now t s c.args.dir (c.requires.dir t s)) ∙ next_is c.args.image.now t s c.args.dir c.args.key
