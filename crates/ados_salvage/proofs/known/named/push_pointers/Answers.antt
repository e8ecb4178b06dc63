use Rattle.ados_salvage.proofs.KnownCommon.{◌≡◌, ℕ, ◌+◌, min, arith, on_ok_weaker, pointer_count, PointsTo}
use Rattle.ados_salvage.proofs.ListsGrow.{IsPointedBelow, grows_both, grows_none, pointed_more, points_to}
use Rattle.ados_salvage.proofs.known.named.push_pointers.Goals as goal

pub loop-i-init : goal.loop-i-init
loop-i-init c = grows_none c.args.image.now (IsPointedBelow c.args.image.now c.args.holder 0) c.args.blocks.now.items (λ block inside p. omega (arith, p.1))

pub loop-i-preserved : goal.loop-i-preserved
loop-i-preserved c =
    grows_both c.args.image.now (IsPointedBelow c.args.image.now c.args.holder c.loop-i.i) (λ (block : ℕ). block ≡ c.long-block.result) (IsPointedBelow c.args.image.now c.args.holder (c.loop-i.i + 1))
    c.args.blocks.now.items c.loop-i.blocks.items c.push_inside.new.blocks.items c.loop-i.invariant c.in_ok-push_inside.ensures
    (pointed_more c.args.image.now c.args.holder c.loop-i.i c.long-block.result c.long-block.ensures)

pub returns : goal.returns
returns c =
    let all : c.loop-i.i ≡ min 72 (pointer_count c.args.image.now c.args.holder) = omega arith in
    on_ok_weaker c.push_inside-2.result
    (λ last. grows_both c.args.image.now (IsPointedBelow c.args.image.now c.args.holder c.loop-i.i) (λ (block : ℕ). block ≡ c.long-next.result) (PointsTo c.args.image.now c.args.holder)
    c.args.blocks.now.items c.loop-i.blocks.items c.push_inside-2.new.blocks.items c.loop-i.invariant last
    (points_to c.args.image.now c.args.holder c.loop-i.i c.long-next.result all c.long-next.ensures))
    c.push_inside-2.ensures
