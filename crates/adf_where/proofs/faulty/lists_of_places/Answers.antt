use Rattle.adf_where.proofs.Common.{ℕ, ◌+◌, List, Vec, Global, get_or, take, sym, subst, AllZip, AreAllPlaces, Place, get_or_default}
use Rattle.adf_where.proofs.Zipped.{zipped_more}
use Rattle.adf_where.proofs.faulty.lists_of_places.Goals as goal

pub loop-block-preserved : goal.loop-block-preserved
loop-block-preserved c =
    let R = λ (block : ℕ) (places : Vec Place Global). AreAllPlaces c.args.image.now block places.items in
    let blocks = c.args.blocks.now in
    let i = c.loop-block.block-index in
    let here : R (get_or blocks i 0) c.in_ok-places_of.field-0 = subst (λ (image : List ℕ). AreAllPlaces image (get_or blocks i 0) c.in_ok-places_of.field-0.items) c.in_ok-census.ensures c.in_ok-places_of.ensures in
    subst (λ (lists : List (Vec Place Global)). AllZip R (take (i + 1) blocks) lists) (sym c.in_ok-push.ensures.items)
    (zipped_more R blocks i c.loop-block.lists.items (get_or blocks i 0) c.in_ok-places_of.field-0 c.loop-block-test.true (get_or_default blocks i 0 (get_or blocks i 0) c.loop-block-test.true) c.loop-block.invariant here)
