use Rattle.ados_data.proofs.Common.{◌≤◌, ◌/◌, ℕ, length, min, ap, ap₂, ◌∙◌, arith, data_size, extension_blocks}
use Rattle.ados_data.proofs.Places.{last_place, header_is}
use Rattle.ados_data.proofs.place.place_at.Goals as goal

pub pointer_block-block-requires-clause-within : goal.pointer_block-block-requires-clause-within
pointer_block-block-requires-clause-within c =
    let last = last_place c.args.image.now c.args.file c.format-format.result c.long.result c.data_count.result c.extension_count-last.result c.format-format.ensures c.long.ensures c.data_count.ensures c.extension_count-last.ensures in
    omega (arith, c.min-index.ensures, last)

pub returns-clause-place : goal.returns-clause-place
returns-clause-place c =
    let last = last_place c.args.image.now c.args.file c.format-format.result c.long.result c.data_count.result c.extension_count-last.result c.format-format.ensures c.long.ensures c.data_count.ensures c.extension_count-last.ensures in
    let within : c.min-index.result ≤ length (extension_blocks c.args.image.now c.args.file) = omega (arith, c.min-index.ensures, last) in
    record { within = within; block_is = c.pointer_block-block.ensures ∙ header_is c.args.image.now c.args.file c.min-index.result within }

pub returns-clause-index : goal.returns-clause-index
returns-clause-index c =
    let last = last_place c.args.image.now c.args.file c.format-format.result c.long.result c.data_count.result c.extension_count-last.result c.format-format.ensures c.long.ensures c.data_count.ensures c.extension_count-last.ensures in
    c.min-index.ensures ∙ ap₂ (λ (room last : ℕ). min (c.args.pos / room / 72) last) (c.data_size.ensures ∙ ap data_size c.format-format.ensures) last
