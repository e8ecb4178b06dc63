use Rattle.ados_volume.proofs.Common.{AllPairs, AreBelow, Below, HasGrown, List, None, Tree, [], ap, entries, length, subst, sym, ℕ, ◌++◌, ◌∙◌, ◌≡◌, ◌≢◌}
use Rattle.ados_volume.proofs.GoingBelow.{keys_of}
use Rattle.ados_volume.proofs.below.entries_below.Goals as goal

-- a list that has grown from nothing
module _ (t : Tree) (top : ℕ) (old found : List Below) (none : old ≡ []) (g : HasGrown t None top old found) where
  whole : g.more ≡ found
  whole = sym (g.grown ∙ ap (λ (es : List Below). es ++ g.more) none)

  from_none : AreBelow t None 0 (entries t top) found
  from_none = subst (AreBelow t None 0 (entries t top)) whole (subst (λ (es : List Below). AreBelow t None (length es) (entries t top) g.more) none g.below)

  each_once : AllPairs (λ j k. j ≢ k) (keys_of found)
  each_once = subst (λ (es : List Below). AllPairs (λ j k. j ≢ k) (keys_of es)) whole g.once

pub returns-clause-below : goal.returns-clause-below
returns-clause-below c = λ t s.
    from_none t c.args.top c.new-found.result.items c.push_below.new.found.items c.new-found.ensures.items (c.in_ok-push_below.ensures t s)

pub returns-clause-once : goal.returns-clause-once
returns-clause-once c =
    let t = c.image.ensures.stands.0 in
    let s = c.image.ensures.stands.1 in
    each_once t c.args.top c.new-found.result.items c.push_below.new.found.items c.new-found.ensures.items (c.in_ok-push_below.ensures t s)
