use Rattle.ados_salvage.proofs.KnownCommon.{◌≡◌, ℕ, ◌+◌, ◌⊎◌, ◌↔◌, List, [], ◌∷◌, rules, sym, subst, take, take_all, take_more, slice_index, Contains, Contains-get_or, HasFileType, GrowsBy, IsHolderOf, PointsTo}
use Rattle.ados_salvage.proofs.PointerBlocks.{holder_inside}
use Rattle.ados_salvage.proofs.ListsGrow.{AnyPointsTo, any_more, grows_both, grows_none, names_all}
use Rattle.ados_salvage.proofs.Leaving.{none_contained}
use Rattle.ados_salvage.proofs.known.named.named_by.Goals as goal

pub loop-holder-init : goal.loop-holder-init
loop-holder-init c =
    let alone : c.push.new.self.items ≡ c.args.header ∷ [] = search rules in
    subst (GrowsBy c.args.image.now (AnyPointsTo c.args.image.now []) (c.args.header ∷ [])) (sym alone)
    (grows_none c.args.image.now (AnyPointsTo c.args.image.now []) (c.args.header ∷ []) (λ block inside p. none_contained p.0 p.1))

pub push_pointers-requires : goal.push_pointers-requires
push_pointers-requires c =
    let there = subst (λ (xs : List ℕ). Contains xs (slice_index c.deref-holder-items.result.now c.loop-holder.holder-index)) c.deref-holder-items.ensures.value
    (Contains-get_or c.deref-holder-items.result.now c.loop-holder.holder-index 0 c.loop-holder-test.true) in
    (holder_inside c.args.image.now c.args.header (slice_index c.deref-holder-items.result.now c.loop-holder.holder-index) c.requires.header.inside ((c.in_ok-holders.ensures.holders _).0 there).1).1

pub loop-holder-preserved : goal.loop-holder-preserved
loop-holder-preserved c =
    let items = c.deref-holder-items.result.now in
    let holder = slice_index c.deref-holder-items.result.now c.loop-holder.holder-index in
    grows_both c.args.image.now (AnyPointsTo c.args.image.now (take c.loop-holder.holder-index items)) (PointsTo c.args.image.now holder) (AnyPointsTo c.args.image.now (take (c.loop-holder.holder-index + 1) items))
    (c.args.header ∷ []) c.loop-holder.blocks.items c.push_pointers.new.blocks.items c.loop-holder.invariant c.in_ok-push_pointers.ensures
    (λ block. subst (λ (xs : List ℕ). AnyPointsTo c.args.image.now xs block ↔ (AnyPointsTo c.args.image.now (take c.loop-holder.holder-index items) block ⊎ PointsTo c.args.image.now holder block))
    (sym (take_more items c.loop-holder.holder-index 0 c.loop-holder-test.true)) (any_more c.args.image.now (take c.loop-holder.holder-index items) holder block))

pub returns-clause-named : goal.returns-clause-named
returns-clause-named c =
    let items = c.deref-holder-items.result.now in
    names_all c.args.image.now c.args.header items c.loop-holder.blocks.items c.requires.header
    (subst (λ (xs : List ℕ). (holder : ℕ) → Contains xs holder ↔ (HasFileType c.args.image.now c.args.header × IsHolderOf c.args.image.now c.args.header holder)) (sym c.deref-holder-items.ensures.value) c.in_ok-holders.ensures.holders)
    (subst (λ (xs : List ℕ). GrowsBy c.args.image.now (AnyPointsTo c.args.image.now xs) (c.args.header ∷ []) c.loop-holder.blocks.items) (take_all c.loop-holder.holder-index items c.loop-holder-test.false) c.loop-holder.invariant)
