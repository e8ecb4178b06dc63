use Rattle.ados_salvage.proofs.Common.{◌≡◌, ℕ, ◌<◌, None, List, All, map, refl, sym, subst, AreBelow, Below, All-nil, block_count, Accepts, IfOk-weaker, Stands, Tree, entries, root, Piece, IsTrustedBitmap, IsOfTree, IsReadable, AreOfTree, Salvaged, Saved, SavesTree, located_of}
use Rattle.ados_volume.proofs.AllBelow.{there_below}
use Rattle.ados_salvage.specs.steps.Finding.{AddsLost, AreOfOneTree}
use Rattle.ados_salvage.proofs.Holding.{of_tree, saves_alone, saves_beside}
use Rattle.ados_salvage.proofs.listing.volume_entries.Goals as goal

-- the entries of the walk are those of each tree that the image stands for
tree_of : (saved : Saved) (image : List ℕ) (found : List Salvaged) (below : List Below) (top : ℕ) → saved.image ≡ image → saved.entries ≡ found → map located_of found ≡ below
    → ((t : Tree) → Stands image t → top ≡ root t) → ((t : Tree) → Stands image t → AreBelow t None 0 (entries t top) below) → ((t : Tree) → Stands image t → All (IsOfTree image t) found)
    → (t : Tree) → Stands saved.image t → AreOfTree t saved
tree_of saved image found below top same are located is walk told t stands =
    let s = subst (λ (xs : List ℕ). Stands xs t) same stands in
    of_tree t saved image found below top same are located (is t s) (walk t s) (told t s)

pub entries_of-requires-clause-keys : goal.entries_of-requires-clause-keys
entries_of-requires-clause-keys c = λ k d l t s.
    let below : AreBelow t None 0 (entries t c.root.result) c.deref.result.now = subst (AreBelow t None 0 (entries t c.root.result)) (sym c.deref.ensures.value) (c.in_ok-below.ensures.below t s) in
    there_below t s.proper c.root.result c.deref.result.now below k d l

pub invariant_of-tree : goal.invariant_of-tree
invariant_of-tree c = record {
  trust = λ is. subst IsTrustedBitmap (sym c.into_image.ensures.same) (c.in_ok-deleted.ensures.stays is);
  readable = subst (λ (image : List ℕ). All (IsReadable image) c.in_ok-entries.entries.items) (sym c.into_image.ensures.same) c.in_ok-entries.ensures.readable;
  inside = subst (All (λ (piece : Piece). piece.block < block_count c.into_image.result)) (sym c.new.ensures.items) (All-nil (λ (piece : Piece). piece.block < block_count c.into_image.result));
}

pub invariant_of-tree-2 : goal.invariant_of-tree-2
invariant_of-tree-2 c = record {
  trust = λ is. subst IsTrustedBitmap (sym c.into_image.ensures.same) (c.in_ok-deleted.ensures.stays is);
  readable = subst (λ (image : List ℕ). All (IsReadable image) c.in_ok-entries.entries.items) (sym c.into_image.ensures.same) c.in_ok-entries.ensures.readable;
  inside = subst (All (λ (piece : Piece). piece.block < block_count c.into_image.result)) (sym c.new.ensures.items) (All-nil (λ (piece : Piece). piece.block < block_count c.into_image.result));
}

pub with_lost-requires-clause-tree : goal.with_lost-requires-clause-tree
with_lost-requires-clause-tree c = subst (λ (image : List ℕ). AreOfOneTree image c.in_ok-entries.entries.items) (sym c.into_image.ensures.same) c.in_ok-entries.ensures.one

pub returns-then-not-trusted-clause-saves : goal.returns-then-not-trusted-clause-saves
returns-then-not-trusted-clause-saves c = λ given accepts.
    saves_alone given c.args.volume.was_validated c.args.listed _ refl refl (subst (Accepts given c.args.volume.was_validated) (sym c.into_image.ensures.same) accepts)
    (tree_of _ c.args.volume.image c.in_ok-entries.entries.items c.deref.result.now c.root.result c.into_image.ensures.same refl c.in_ok-entries.ensures.located c.root.ensures.root
    (λ t s. subst (AreBelow t None 0 (entries t c.root.result)) (sym c.deref.ensures.value) (c.in_ok-below.ensures.below t s)) c.in_ok-entries.ensures.told)
    (c.in_ok-deleted.ensures.trust given accepts) (c.in_ok-deleted.ensures.deleted given accepts) c.if-not-trusted.true c.in_ok-entries.ensures.one.reached

pub returns-clause-saves : goal.returns-clause-saves
returns-clause-saves c = λ given accepts.
    IfOk-weaker c.with_lost.result (AddsLost _) (SavesTree c.args.listed given)
    (λ new adds. saves_beside given c.args.volume.was_validated c.args.listed _ refl refl (subst (Accepts given c.args.volume.was_validated) (sym c.into_image.ensures.same) accepts)
    (tree_of _ c.args.volume.image c.in_ok-entries.entries.items c.deref.result.now c.root.result c.into_image.ensures.same refl c.in_ok-entries.ensures.located c.root.ensures.root
    (λ t s. subst (AreBelow t None 0 (entries t c.root.result)) (sym c.deref.ensures.value) (c.in_ok-below.ensures.below t s)) c.in_ok-entries.ensures.told)
    (c.in_ok-deleted.ensures.trust given accepts) (c.in_ok-deleted.ensures.deleted given accepts) c.if-not-trusted.false new adds) c.with_lost.ensures

pub returns-clause-holes : goal.returns-clause-holes
returns-clause-holes c = IfOk-weaker c.with_lost.result (AddsLost _) (λ saved. saved.holes ≡ c.args.holes.items) (λ saved adds. adds.holes) c.with_lost.ensures
