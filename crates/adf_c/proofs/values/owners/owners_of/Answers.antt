use Rattle.std.proofs.Common.{length, ap, arith}
use Rattle.adf_block.specs.Image.{block_count}
use Rattle.ados_model.proofs.Standing.{count_same}
use Rattle.adf_c.proofs.Owning.{mapped}
use Rattle.adf_c.proofs.values.owners.owners_of.Goals as goal

pub told_owners-requires : goal.told_owners-requires
told_owners-requires c =
    let t = c.image.ensures.stands.0 in
    let s = c.image.ensures.stands.1 in
    let count = (c.in_ok-owners.ensures t s).count in
    let blocks = count_same c.args.volume.now.image t s in
    let given = ap length c.deref.ensures.value in
    let same = ap block_count c.image.ensures.same in
    omega (arith, count, blocks, given, same, c.blocks-2.ensures.count)

pub returns : goal.returns
returns c = mapped c.told_owners.result (λ told. told.items) _ _ _ c.in_ok-owners.ensures c.deref.ensures.value c.told_owners.ensures
