use Rattle.ados_data.proofs.Common.{◌≡◌, ◌<◌, ◌-◌, ◌/◌, ◌%◌, ◌∷◌, ℕ, length, slice_index, sym, ap, ◌∙◌, arith, get_or_past, FIRST_POINTER, Format, long, data_count, extension_count, data_blocks, extension_blocks, contents, pointer_block}
use Rattle.ados_data.proofs.Places.{header_is, data_is, readable}
use Rattle.ados_data.proofs.grow.end_of.Goals as goal
use Rattle.ados_data.proofs.grow.end_of.Goals.{then-count-eq0, else-count-eq0}

pub long-requires-clause-block : goal.long-requires-clause-block
long-requires-clause-block c = (readable c.args.image.now c.args.file c.requires.lawful).headers_inside 0 (omega arith)

pub pointer_block-holder-requires-clause-readable : goal.pointer_block-holder-requires-clause-readable
pointer_block-holder-requires-clause-readable c = readable c.args.image.now c.args.file c.requires.lawful

pub data_block-last-requires : goal.data_block-last-requires
data_block-last-requires c =
    let count : c.data_count-count.result ≡ length (data_blocks c.args.image.now c.args.file) =
    c.data_count-count.ensures ∙ ap (data_count c.args.format) (c.long.ensures ∙ c.requires.lawful.holds.size) ∙ ap (λ (f : Format). data_count f (length (contents c.args.image.now c.args.file))) c.requires.format ∙ sym c.requires.lawful.data_fits in
    let place : c.extension_count.result ≡ length (extension_blocks c.args.image.now c.args.file) = c.extension_count.ensures ∙ ap extension_count count ∙ sym c.requires.lawful.extensions_fit in
    omega (arith, c.pointer_block-holder.ensures, (readable c.args.image.now c.args.file c.requires.lawful).headers_inside c.extension_count.result (omega arith))

pub returns : goal.returns
returns c =
    let count : c.data_count-count.result ≡ length (data_blocks c.args.image.now c.args.file) =
    c.data_count-count.ensures ∙ ap (data_count c.args.format) (c.long.ensures ∙ c.requires.lawful.holds.size) ∙ ap (λ (f : Format). data_count f (length (contents c.args.image.now c.args.file))) c.requires.format ∙ sym c.requires.lawful.data_fits in
    let place : c.extension_count.result ≡ length (extension_blocks c.args.image.now c.args.file) = c.extension_count.ensures ∙ ap extension_count count ∙ sym c.requires.lawful.extensions_fit in
    record {
      counted = count;
      holder_is = c.pointer_block-holder.ensures ∙ header_is c.args.image.now c.args.file c.extension_count.result (omega arith) ∙ ap (slice_index (c.args.file ∷ extension_blocks c.args.image.now c.args.file)) place;
      last_is = elim c.if-count-eq0.branch [
        | then-count-eq0 w ↦ w.last-is ∙ sym (get_or_past (data_blocks c.args.image.now c.args.file) (length (data_blocks c.args.image.now c.args.file) - 1) 0 (omega (arith, count, w.if-count-eq0.true)))
        | else-count-eq0 w ↦
            let some : 0 < length (data_blocks c.args.image.now c.args.file) = omega (arith, count, w.if-count-eq0.false) in
            let here : c.data_count-count.result - 1 ≡ length (data_blocks c.args.image.now c.args.file) - 1 = omega (arith, count) in
            let row : c.extension_count.result ≡ (length (data_blocks c.args.image.now c.args.file) - 1) / 72 = omega (arith, place, c.requires.lawful.extensions_fit, some) in
            w.last-is ∙ w.data_block-last.ensures
            ∙ ap (λ (b : ℕ). long c.args.image.now b (FIRST_POINTER - (c.data_count-count.result - 1) % 72)) (c.pointer_block-holder.ensures ∙ ap (pointer_block c.args.image.now c.args.file) row)
            ∙ ap (λ (n : ℕ). long c.args.image.now (pointer_block c.args.image.now c.args.file ((length (data_blocks c.args.image.now c.args.file) - 1) / 72)) (FIRST_POINTER - n % 72)) here
            ∙ data_is c.args.image.now c.args.file (length (data_blocks c.args.image.now c.args.file) - 1) (omega arith)
      ];
    }
