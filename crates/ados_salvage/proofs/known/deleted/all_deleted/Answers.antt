use Rattle.ados_salvage.proofs.KnownCommon.{ℕ, List, [], ◌∷◌, ◌++◌, All, map, slice_index, sym, ap, ◌∙◌, subst, map-append, take_all, take_more, All-push, Deleted, HasRecovery, AreDeleted}
use Rattle.ados_salvage.proofs.ListingDeleted.{lists_all}
use Rattle.ados_salvage.proofs.known.deleted.all_deleted.Goals as goal

pub loop-header-preserved : goal.loop-header-preserved
loop-header-preserved c = record {
  same = ap (map (λ (entry : Deleted). entry.header)) c.in_ok-push.ensures.items ∙ map-append (λ (entry : Deleted). entry.header) c.loop-header.found.items _
      ∙ ap (λ (xs : List ℕ). xs ++ slice_index c.args.headers.now c.loop-header.header-index ∷ []) c.loop-header.invariant.same ∙ sym (take_more c.args.headers.now c.loop-header.header-index 0 c.loop-header-test.true);
  told = subst (All (λ (entry : Deleted). HasRecovery c.args.known.now.image entry.header entry.recovery)) (sym c.in_ok-push.ensures.items)
      (All-push (λ (entry : Deleted). HasRecovery c.args.known.now.image entry.header entry.recovery) c.loop-header.found.items _ c.loop-header.invariant.told c.in_ok-recovery.ensures);
}

pub returns : goal.returns
returns c =
    lists_all c.args.known.now.image c.loop-header.found.items
    (subst (AreDeleted c.args.known.now.image) (sym (c.loop-header.invariant.same ∙ take_all c.loop-header.header-index c.args.headers.now c.loop-header-test.false)) c.requires.headers) c.loop-header.invariant.told
