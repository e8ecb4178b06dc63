use Rattle.adf_where.proofs.Common.{sym, ◌∙◌, arith}
use Rattle.ados_model.specs.Faults.{InImage}
use Rattle.adf_where.proofs.Mapping.{plain_named}
use Rattle.adf_where.proofs.faulty_map.plain_mark.Goals as goal

pub returns-in-Some : goal.returns-in-Some
returns-in-Some c =
    let inside : InImage c.args.image.now c.args.block = (omega (arith, c.if-block-lt-BOOT_BLOCKS.false), c.requires.inside) in
    plain_named c.args.image.now c.args.block c.args.places.now c.requires.places c.in-Some.place.now c.in-Some.ensures.value (c.requires.once inside.0) c.named_mark.result inside
    (λ e. c.if-block-root.false (e ∙ sym c.root.ensures)) c.named_mark.ensures
