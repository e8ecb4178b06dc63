use Rattle.ados_volume.proofs.Common.{Bool, IsBlankRoot, List, NamesBlank, OnlyBlock, arith, block_count, root_key, same_count, subst, sym, ℕ, ◌∙◌, ◌≡◌}
use Rattle.ados_volume.proofs.BlankImage.{blank_is}
use Rattle.ados_volume.proofs.blank_volume.blank_image.Goals as goal

pub returns-clause-image : goal.returns-clause-image
returns-clause-image c =
    let n = c.args.blocks in
    let z0 = c.in_ok-image.image in
    let z1 = c.put_kind.new.image in
    let z2 = c.put_root.new.image in
    let whole = c.in_ok-image.ensures.whole in
    let count : block_count z1 ≡ n = same_count _ z0 z1 c.put_kind.ensures.rest ∙ omega (arith, whole) in
    blank_is c.args.format n c.args.name.now c.args.moment c.deref.result.now z0 z1 z2 c.rebuild.new.image
    c.requires whole c.in_ok-image.ensures.zero c.put_kind.ensures.kind c.put_kind.ensures.rest
    (subst (λ (m : ℕ). IsBlankRoot m c.args.name.now c.args.moment z2) count c.put_root.ensures.root)
    (subst (λ (m : ℕ). OnlyBlock (root_key m) z1 z2) count c.put_root.ensures.rest)
    c.put_root.ensures.name.short
    (subst (λ (xs : List Bool). NamesBlank n xs) (sym c.deref.ensures.value) c.in_ok-named.ensures)
    c.rebuild.ensures.rebuilt
