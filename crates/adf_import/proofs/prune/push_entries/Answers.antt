use Rattle.std.proofs.Common.{◌∷◌, [], ◌++◌, ℕ, List, length, arith, sym, ap, ◌∙◌, append_assoc, length-append}
use Rattle.ados_model.proofs.Standing.{count_same}
use Rattle.ados_volume.proofs.DirectoryKeys.{listing_goes_on, listing_small}
use Rattle.adf_import.proofs.prune.push_entries.Goals as goal

pub loop-key-smaller : goal.loop-key-smaller
loop-key-smaller c =
    let t = c.image.ensures.stands.0 in
    let s = c.image.ensures.stands.1 in
    let listed = c.loop-key.invariant t s in
    let small = listing_small t s.proper c.args.dir c.loop-key.last c.in-Entry.key listed.0 listed.2 (sym c.in-Entry.is ∙ c.next_from.ensures t s) in
    let blocks = count_same c.args.volume.now.image t s in
    omega (arith, small, blocks, c.in_ok-push.ensures.len, ap length listed.1, length-append c.args.keys.now.items listed.0, c.loop-key.keys.ok, c.args.keys.now.ok)

pub loop-key-preserved : goal.loop-key-preserved
loop-key-preserved c = λ t s.
    let listed = c.loop-key.invariant t s in (
      listed.0 ++ c.in-Entry.key ∷ [],
      c.in_ok-push.ensures.items ∙ ap (λ (ks : List ℕ). ks ++ c.in-Entry.key ∷ []) listed.1 ∙ append_assoc c.args.keys.now.items listed.0 (c.in-Entry.key ∷ []),
      listing_goes_on t s.proper c.args.dir c.loop-key.last c.in-Entry.key listed.0 listed.2 (sym c.in-Entry.is ∙ c.next_from.ensures t s),
    )
