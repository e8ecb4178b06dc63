use Rattle.std.proofs.Common.{◌-◌, ◌+◌, take, drop, slice_index, arith}
use Rattle.adf_block.specs.declared.layout.TheConstants.{NAME_BYTE}
use Rattle.ados_chain.proofs.Framing.{name-short, name_byte-read, name-read, name-made}
use Rattle.ados_salvage.proofs.known.header.name_of.Goals as goal

pub returns-then-length-gt-MAX_LEN : goal.returns-then-length-gt-MAX_LEN
returns-then-length-gt-MAX_LEN c =
    λ name.
    omega (arith, c.if-length-gt-MAX_LEN.true, name-short c.args.image.now c.args.key c.requires name, name_byte-read c.args.image.now c.block-block.result.now c.args.key c.block-block.ensures.bytes)

pub returns : goal.returns
returns c =
    let n = slice_index c.block-block.result.now NAME_BYTE in
    let counted = name_byte-read c.args.image.now c.block-block.result.now c.args.key c.block-block.ensures.bytes in
    name-made c.new.result c.ok.result (take (433 + n - 433) (drop 433 c.block-block.result.now)) _ c.ok.ensures.value
    (name-read c.args.image.now c.block-block.result.now c.args.key n c.block-block.ensures.bytes counted c.if-length-gt-MAX_LEN.false)
    c.new.ensures.ok c.new.ensures.valid
