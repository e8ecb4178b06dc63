use Rattle.ados_data.proofs.Common.{◌≡◌, ◌-◌, ◌+◌, ◌/◌, ◌%◌, ◌<◌, ◌≤◌, ℕ, List, take, drop, length, refl, sym, ap, ap₂, ◌∙◌, subst, arith, Format, bytes_at, format_of, data_size, data_start, extension_blocks, pointer_block, contents}
use borrow.Rule.Slice.PartMut.{put_mid}
use Rattle.ados_data.proofs.Places.{size_is, byte_within, holder_of}
use Rattle.ados_data.proofs.Reading.{data_of_block, holder_inside, block_inside, block_is, on_to_next, on_in_same, part_copied}
use Rattle.ados_data.proofs.Sizes.{few_bytes, part_bounds}
use Rattle.ados_data.proofs.read.read_near.Goals as goal

pub returns-then-size-pos-clause-count : goal.returns-then-size-pos-clause-count
returns-then-size-pos-clause-count c = omega (arith, c.if-size-pos.true, c.long-size.ensures, size_is c.args.image.now c.args.file)

pub pointer_block-holder-requires-clause-within : goal.pointer_block-holder-requires-clause-within
pointer_block-holder-requires-clause-within c =
    let within : c.args.pos < length (contents c.args.image.now c.args.file) = omega (arith, c.if-size-pos.false, c.long-size.ensures, size_is c.args.image.now c.args.file) in
    let room : c.data_size-room.result ≡ data_size (format_of c.args.image.now) = c.data_size-room.ensures ∙ ap data_size c.format-format.ensures in
    subst (λ (n : ℕ). c.args.pos / n / 72 ≤ length (extension_blocks c.args.image.now c.args.file)) (sym room)
    (holder_of c.args.image.now c.args.file (c.args.pos / data_size (format_of c.args.image.now)) (byte_within c.args.image.now c.args.file c.args.pos within))

pub returns-clause-count : goal.returns-clause-count
returns-clause-count c = omega (arith, c.min-count.ensures, c.long-size.ensures, size_is c.args.image.now c.args.file)

pub data_block-requires : goal.data_block-requires
data_block-requires c =
    let room : c.data_size-room.result ≡ data_size (format_of c.args.image.now) = c.data_size-room.ensures ∙ ap data_size c.format-format.ensures in
    let within : c.args.pos + c.loop-done.done < length (contents c.args.image.now c.args.file) = omega (arith, c.min-count.ensures, c.long-size.ensures, size_is c.args.image.now c.args.file, c.loop-done-test.true) in
    holder_inside c.args.image.now c.args.file c.requires.readable c.data_size-room.result room (c.args.pos + c.loop-done.done) c.loop-done.holder within c.loop-done.invariant.holder

pub block-requires : goal.block-requires
block-requires c =
    let room : c.data_size-room.result ≡ data_size (format_of c.args.image.now) = c.data_size-room.ensures ∙ ap data_size c.format-format.ensures in
    let within : c.args.pos + c.loop-done.done < length (contents c.args.image.now c.args.file) = omega (arith, c.min-count.ensures, c.long-size.ensures, size_is c.args.image.now c.args.file, c.loop-done-test.true) in
    block_inside c.args.image.now c.args.file c.requires.readable c.data_size-room.result room (c.args.pos + c.loop-done.done) c.loop-done.holder c.data_block.result within c.loop-done.invariant.holder c.data_block.ensures

pub long-holder-requires-clause-block : goal.long-holder-requires-clause-block
long-holder-requires-clause-block c =
    let room : c.data_size-room.result ≡ data_size (format_of c.args.image.now) = c.data_size-room.ensures ∙ ap data_size c.format-format.ensures in
    let within : c.args.pos + c.loop-done.done < length (contents c.args.image.now c.args.file) = omega (arith, c.min-count.ensures, c.long-size.ensures, size_is c.args.image.now c.args.file, c.loop-done-test.true) in
    holder_inside c.args.image.now c.args.file c.requires.readable c.data_size-room.result room (c.args.pos + c.loop-done.done) c.loop-done.holder within c.loop-done.invariant.holder

pub loop-done-preserved-then-at-part-eq0 : goal.loop-done-preserved-then-at-part-eq0
loop-done-preserved-then-at-part-eq0 c =
    let room : c.data_size-room.result ≡ data_size (format_of c.args.image.now) = c.data_size-room.ensures ∙ ap data_size c.format-format.ensures in
    let within : c.args.pos + c.loop-done.done < length (contents c.args.image.now c.args.file) = omega (arith, c.min-count.ensures, c.long-size.ensures, size_is c.args.image.now c.args.file, c.loop-done-test.true) in
    let bounds : (0 < c.min-part.result) × ((c.args.pos + c.loop-done.done) % c.data_size-room.result + c.min-part.result ≤ c.data_size-room.result) × (c.loop-done.done + c.min-part.result ≤ c.min-count.result) =
    part_bounds c.data_size-room.result (c.args.pos + c.loop-done.done) c.loop-done.done c.min-count.result c.min-part.result (omega (arith, room, few_bytes (format_of c.args.image.now))) c.loop-done-test.true c.min-part.ensures in
    let next : c.args.pos + c.loop-done.done + c.min-part.result ≡ c.args.pos + (c.loop-done.done + c.min-part.result) = omega arith in
    let part : c.loop-done.done + c.min-part.result - c.loop-done.done ≡ c.min-part.result = omega arith in
    let taken : (c.args.pos + c.loop-done.done) % c.data_size-room.result + c.min-part.result - (c.args.pos + c.loop-done.done) % c.data_size-room.result ≡ c.min-part.result = omega arith in
    let found : take (length c.block.result.now - c.data_start.result) (drop c.data_start.result c.block.result.now) ≡ bytes_at c.args.image.now c.data_block.result (data_start (format_of c.args.image.now)) (data_size (format_of c.args.image.now)) =
    data_of_block c.args.image.now c.data_block.result c.format-format.result c.block.result.now c.data_start.result c.block.ensures.bytes c.block.ensures.length c.data_start.ensures ∙ ap (λ (f : Format). bytes_at c.args.image.now c.data_block.result (data_start f) (data_size f)) c.format-format.ensures in
    record {
      below = bounds.2;
      holder = on_to_next c.args.image.now c.args.file c.requires.readable c.data_size-room.result room (c.args.pos + c.loop-done.done) c.min-part.result c.loop-done.holder c.long-holder.result bounds.0 bounds.1 c.if-at-part-eq0.true c.loop-done.invariant.holder c.long-holder.ensures
          ∙ ap (λ (n : ℕ). pointer_block c.args.image.now c.args.file (n / c.data_size-room.result / 72)) next;
      filled = ap (λ (n : ℕ). put_mid c.loop-done.done n c.loop-done.buffer c.copy_from_slice.new.self) part
          ∙ part_copied c.args.image.now c.args.file c.requires.readable c.data_size-room.result room c.args.pos c.loop-done.done c.min-part.result (c.args.pos + c.loop-done.done) ((c.args.pos + c.loop-done.done) % c.data_size-room.result) c.data_block.result c.loop-done.buffer c.args.buffer.now c.copy_from_slice.new.self
          refl refl bounds.1 (omega (arith, bounds.2, c.min-count.ensures, c.long-size.ensures, size_is c.args.image.now c.args.file)) (omega (arith, bounds.2, c.min-count.ensures))
          (block_is c.args.image.now c.args.file c.requires.readable c.data_size-room.result room (c.args.pos + c.loop-done.done) c.loop-done.holder c.data_block.result c.loop-done.invariant.holder c.data_block.ensures)
          (block_inside c.args.image.now c.args.file c.requires.readable c.data_size-room.result room (c.args.pos + c.loop-done.done) c.loop-done.holder c.data_block.result within c.loop-done.invariant.holder c.data_block.ensures)
          c.loop-done.invariant.filled
          (c.copy_from_slice.ensures.after ∙ ap₂ (λ (n : ℕ) (xs : List ℕ). take n (drop ((c.args.pos + c.loop-done.done) % c.data_size-room.result) xs)) taken found);
    }

pub loop-done-preserved : goal.loop-done-preserved
loop-done-preserved c =
    let room : c.data_size-room.result ≡ data_size (format_of c.args.image.now) = c.data_size-room.ensures ∙ ap data_size c.format-format.ensures in
    let within : c.args.pos + c.loop-done.done < length (contents c.args.image.now c.args.file) = omega (arith, c.min-count.ensures, c.long-size.ensures, size_is c.args.image.now c.args.file, c.loop-done-test.true) in
    let bounds : (0 < c.min-part.result) × ((c.args.pos + c.loop-done.done) % c.data_size-room.result + c.min-part.result ≤ c.data_size-room.result) × (c.loop-done.done + c.min-part.result ≤ c.min-count.result) =
    part_bounds c.data_size-room.result (c.args.pos + c.loop-done.done) c.loop-done.done c.min-count.result c.min-part.result (omega (arith, room, few_bytes (format_of c.args.image.now))) c.loop-done-test.true c.min-part.ensures in
    let next : c.args.pos + c.loop-done.done + c.min-part.result ≡ c.args.pos + (c.loop-done.done + c.min-part.result) = omega arith in
    let part : c.loop-done.done + c.min-part.result - c.loop-done.done ≡ c.min-part.result = omega arith in
    let taken : (c.args.pos + c.loop-done.done) % c.data_size-room.result + c.min-part.result - (c.args.pos + c.loop-done.done) % c.data_size-room.result ≡ c.min-part.result = omega arith in
    let found : take (length c.block.result.now - c.data_start.result) (drop c.data_start.result c.block.result.now) ≡ bytes_at c.args.image.now c.data_block.result (data_start (format_of c.args.image.now)) (data_size (format_of c.args.image.now)) =
    data_of_block c.args.image.now c.data_block.result c.format-format.result c.block.result.now c.data_start.result c.block.ensures.bytes c.block.ensures.length c.data_start.ensures ∙ ap (λ (f : Format). bytes_at c.args.image.now c.data_block.result (data_start f) (data_size f)) c.format-format.ensures in
    record {
      below = bounds.2;
      holder = on_in_same c.args.image.now c.args.file c.requires.readable c.data_size-room.result room (c.args.pos + c.loop-done.done) c.min-part.result c.loop-done.holder bounds.1 c.if-at-part-eq0.false c.loop-done.invariant.holder
          ∙ ap (λ (n : ℕ). pointer_block c.args.image.now c.args.file (n / c.data_size-room.result / 72)) next;
      filled = ap (λ (n : ℕ). put_mid c.loop-done.done n c.loop-done.buffer c.copy_from_slice.new.self) part
          ∙ part_copied c.args.image.now c.args.file c.requires.readable c.data_size-room.result room c.args.pos c.loop-done.done c.min-part.result (c.args.pos + c.loop-done.done) ((c.args.pos + c.loop-done.done) % c.data_size-room.result) c.data_block.result c.loop-done.buffer c.args.buffer.now c.copy_from_slice.new.self
          refl refl bounds.1 (omega (arith, bounds.2, c.min-count.ensures, c.long-size.ensures, size_is c.args.image.now c.args.file)) (omega (arith, bounds.2, c.min-count.ensures))
          (block_is c.args.image.now c.args.file c.requires.readable c.data_size-room.result room (c.args.pos + c.loop-done.done) c.loop-done.holder c.data_block.result c.loop-done.invariant.holder c.data_block.ensures)
          (block_inside c.args.image.now c.args.file c.requires.readable c.data_size-room.result room (c.args.pos + c.loop-done.done) c.loop-done.holder c.data_block.result within c.loop-done.invariant.holder c.data_block.ensures)
          c.loop-done.invariant.filled
          (c.copy_from_slice.ensures.after ∙ ap₂ (λ (n : ℕ) (xs : List ℕ). take n (drop ((c.args.pos + c.loop-done.done) % c.data_size-room.result) xs)) taken found);
    }
