use Rattle.std.proofs.Common.{arith, refl, sym, ◌∙◌, subst}
use Rattle.ados_model.proofs.Standing.{count_same}
use Rattle.ados_volume.proofs.DirectoryKeys.{IsListed, listing_goes_on, listing_small}
use Rattle.ados_volume.proofs.below.keys_in.Goals as goal

pub next_from-requires-clause-place : goal.next_from-requires-clause-place
next_from-requires-clause-place c = λ t s. rw (c.loop-key.invariant t s).behind_last refl

pub loop-key-smaller : goal.loop-key-smaller
loop-key-smaller c =
    let t = c.image.ensures.stands.0 in
    let s = c.image.ensures.stands.1 in
    let small = listing_small t s.proper c.args.dir c.loop-key.last c.in-Entry.key c.loop-key.keys.items (c.loop-key.invariant t s) (sym c.in-Entry.is ∙ c.next_from.ensures t s) in
    let blocks = count_same c.args.volume.now.image t s in
    omega (arith, small, blocks, c.in_ok-push.ensures.len)

pub loop-key-preserved : goal.loop-key-preserved
loop-key-preserved c = λ t s.
    subst (IsListed t c.args.dir c.in-Entry.key) (sym c.in_ok-push.ensures.items)
    (listing_goes_on t s.proper c.args.dir c.loop-key.last c.in-Entry.key c.loop-key.keys.items (c.loop-key.invariant t s) (sym c.in-Entry.is ∙ c.next_from.ensures t s))
