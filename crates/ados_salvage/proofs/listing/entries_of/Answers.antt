use Rattle.ados_salvage.proofs.Common.{◌≡◌, ◌<◌, ◌++◌, ◌∷◌, [], arith, false, All, List, map, sym, ap, ap₂, ◌∙◌, subst, Below, map-append, take_all, take_more, All-nil, All-push, IsOfTree, Salvaged, block_count, broken_total, located_of, IsReadable}
use Rattle.ados_salvage.proofs.Growing.{broken_more, none_broken}
use Rattle.ados_salvage.proofs.Holding.{one_tree}
use Rattle.ados_salvage.proofs.listing.entries_of.Goals as goal

pub loop-entry-init : goal.loop-entry-init
loop-entry-init c =
    let none = c.in_ok-found.ensures.items in
    record {
      located = ap (map located_of) none;
      told = λ t s. subst (All (IsOfTree c.args.volume.now.image t)) (sym none) (All-nil (IsOfTree c.args.volume.now.image t));
      readable = subst (All (IsReadable c.args.volume.now.image)) (sym none) (All-nil (IsReadable c.args.volume.now.image));
      inside = subst (All (λ (entry : Salvaged). entry.header < block_count c.args.volume.now.image)) (sym none) (All-nil (λ (entry : Salvaged). entry.header < block_count c.args.volume.now.image));
      reached = subst (All (λ (entry : Salvaged). entry.found ≡ false)) (sym none) (All-nil (λ (entry : Salvaged). entry.found ≡ false));
      whole = ap broken_total none ∙ none_broken;
    }

pub loop-entry-preserved : goal.loop-entry-preserved
loop-entry-preserved c =
    let told = c.entry_of.ensures in
    record {
      located = ap (map located_of) c.in_ok-push.ensures.items ∙ map-append located_of c.loop-entry.found.items (c.entry_of.result ∷ [])
          ∙ ap₂ (λ (xs : List Below) (x : Below). xs ++ x ∷ []) c.loop-entry.invariant.located told.located
          ∙ sym (take_more c.args.below.now c.loop-entry.entry-index _ c.loop-entry-test.true);
      told = λ t s. subst (All (IsOfTree c.args.volume.now.image t)) (sym c.in_ok-push.ensures.items)
          (All-push (IsOfTree c.args.volume.now.image t) c.loop-entry.found.items c.entry_of.result (c.loop-entry.invariant.told t s) (told.told t s));
      readable = subst (All (IsReadable c.args.volume.now.image)) (sym c.in_ok-push.ensures.items)
          (All-push (IsReadable c.args.volume.now.image) c.loop-entry.found.items c.entry_of.result c.loop-entry.invariant.readable told.readable);
      inside = subst (All (λ (entry : Salvaged). entry.header < block_count c.args.volume.now.image)) (sym c.in_ok-push.ensures.items)
          (All-push (λ (entry : Salvaged). entry.header < block_count c.args.volume.now.image) c.loop-entry.found.items c.entry_of.result c.loop-entry.invariant.inside told.inside);
      reached = subst (All (λ (entry : Salvaged). entry.found ≡ false)) (sym c.in_ok-push.ensures.items)
          (All-push (λ (entry : Salvaged). entry.found ≡ false) c.loop-entry.found.items c.entry_of.result c.loop-entry.invariant.reached told.reached);
      whole = omega (arith, c.loop-entry.invariant.whole, told.whole, ap broken_total c.in_ok-push.ensures.items, broken_more c.loop-entry.found.items c.entry_of.result);
    }

pub returns-clause-located : goal.returns-clause-located
returns-clause-located c = c.loop-entry.invariant.located ∙ take_all c.loop-entry.entry-index c.args.below.now c.loop-entry-test.false

pub returns-clause-one : goal.returns-clause-one
returns-clause-one c =
    let i = c.loop-entry.invariant in
    one_tree c.args.volume.now.image c.loop-entry.found.items c.args.below.now (i.located ∙ take_all c.loop-entry.entry-index c.args.below.now c.loop-entry-test.false) c.requires.once i.inside i.reached i.whole
