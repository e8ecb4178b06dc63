use Rattle.ados_data.proofs.Common.{◌≡◌, ◌≤◌, ◌+◌, ◌-◌, ◌/◌, ◌%◌, inl, inr, ℕ, List, length, max, take, drop, ap, ◌∙◌, rules, subst, arith, length-take, take_all, IsSize, format_of, contents, data_start, overlaid, GrowsFile}
use Rattle.ados_data.proofs.Fitting.{size_fits}
use Rattle.ados_data.proofs.Overlaid.{overlaid_none, overlaid_longer, overlaid_zeros}
use Rattle.ados_data.proofs.Overlaying.{IsWritten, IsSettled, IsTurn, written_settled, past_fields, bounds, holder_is_inside, block_is_inside, written_more, grown_on, bound_on, holder_inside_new, holder_next, holder_same}
use Rattle.ados_data.proofs.Places.{among_more, readable}
use Rattle.ados_data.proofs.Sizes.{whole_block}
use Rattle.ados_data.proofs.write.write_near.Goals as goal
use Rattle.ados_data.proofs.write.write_near.Goals.{After-lengthen-bound, After-min-part, After-put_bytes, in-Ofs, in-Ffs}

-- the new size
size_is : (c : After-lengthen-bound) → c.max-size.result ≡ max (length (contents c.args.image.now c.args.file)) (c.args.pos + length c.args.bytes.now)
size_is c = omega (arith, c.max-size.ensures, c.long.ensures, c.requires.writable.lawful.holds.size)

-- the turn of the walk, with its part of the bytes
turn : (c : After-min-part) → IsTurn c.args.image.now (contents c.lengthen-bound.new.image c.args.file) c.loop-done.image c.format-format.result c.args.file (max (length (contents c.args.image.now c.args.file)) (c.args.pos + length c.args.bytes.now)) c.args.pos c.args.bytes.now c.loop-done.done c.min-part.result c.data_size-room.result c.loop-done.holder
turn c = record {
  grown = c.loop-done.invariant.grown;
  size_ok = subst IsSize c.blocks-2.ensures.count c.blocks-2.ensures.size;
  format_is = c.format-format.ensures ∙ c.lengthen-bound.ensures.grown.format;
  room_is = c.data_size-room.ensures;
  whole = omega (arith, c.max-size.ensures, c.long.ensures, c.lengthen-bound.ensures.grown.sized, c.requires.writable.lawful.holds.size);
  fits = omega arith;
  left = c.loop-done-test.true;
  written = c.loop-done.invariant.written;
  part_is = c.min-part.ensures;
  holder_is = c.loop-done.invariant.holder c.loop-done-test.true;
}

part : (c : After-min-part) → take (c.loop-done.done + c.min-part.result - c.loop-done.done) (drop c.loop-done.done c.args.bytes.now) ≡ take c.min-part.result (drop c.loop-done.done c.args.bytes.now)
part c = let here : c.loop-done.done + c.min-part.result - c.loop-done.done ≡ c.min-part.result = omega arith in ap (λ (n : ℕ). take n (drop c.loop-done.done c.args.bytes.now)) here

-- the part is in its data block
written : (c : After-put_bytes) → (c.args.pos + c.loop-done.done) % c.data_size-room.result + c.min-part.result ≤ c.data_size-room.result → {new : List ℕ} → IsSettled c.format-format.result c.data_block-block.result c.put_bytes.new.self new
    → IsWritten c.format-format.result c.data_block-block.result (data_start c.format-format.result + (c.args.pos + c.loop-done.done) % c.data_size-room.result) (take (c.loop-done.done + c.min-part.result - c.loop-done.done) (drop c.loop-done.done c.args.bytes.now)) c.loop-done.image new
written c fits {new} settled =
    let from = (c.args.pos + c.loop-done.done) % c.data_size-room.result in
    let ys = take (c.loop-done.done + c.min-part.result - c.loop-done.done) (drop c.loop-done.done c.args.bytes.now) in
    let count = length-take (c.loop-done.done + c.min-part.result - c.loop-done.done) (drop c.loop-done.done c.args.bytes.now) in
    subst (λ (n : ℕ). IsWritten c.format-format.result c.data_block-block.result (n + from) ys c.loop-done.image new) c.data_start-start.ensures
    (written_settled (c.data_start-start.result + from) ys (λ e. omega (arith, c.data_start-start.ensures, past_fields c.format-format.result from e)) (omega (arith, c.data_start-start.ensures, c.data_size-room.ensures, whole_block c.format-format.result, count, fits))
    c.put_bytes.ensures.put c.put_bytes.ensures.rest settled)

pub overflow_cast-size : goal.overflow_cast-size
overflow_cast-size c =
    let size = max (length (contents c.args.image.now c.args.file)) (c.args.pos + length c.args.bytes.now) in
    omega (arith, c.max-size.ensures, c.long.ensures, c.requires.writable.lawful.holds.size, size_fits c.args.image.now c.args.file size (omega (arith, c.blocks-2.ensures.count, c.if-prove.false)) c.requires.writable.lawful c.requires.free)

pub long-requires-clause-block : goal.long-requires-clause-block
long-requires-clause-block c = omega (arith, c.requires.writable.lawful.places.headers_inside 0 (omega arith))

pub pointer_block-holder-requires-clause-readable : goal.pointer_block-holder-requires-clause-readable
pointer_block-holder-requires-clause-readable c = readable c.lengthen-bound.new.image c.args.file c.lengthen-bound.ensures.grown.writable.lawful

pub pointer_block-holder-requires-clause-near : goal.pointer_block-holder-requires-clause-near
pointer_block-holder-requires-clause-near c = among_more c.lengthen-bound.ensures.grown.extensions c.requires.near

pub data_block-block-requires : goal.data_block-block-requires
data_block-block-requires c = holder_is_inside (turn (goal.at.data_block-block-requires c).After-min-part)

pub put_bytes-requires-clause-inside : goal.put_bytes-requires-clause-inside
put_bytes-requires-clause-inside c = block_is_inside (turn (goal.at.put_bytes-requires-clause-inside c).After-min-part) c.data_block-block.ensures

pub put_bytes-requires-clause-room : goal.put_bytes-requires-clause-room
put_bytes-requires-clause-room c =
    omega (arith, c.data_start-start.ensures, c.data_size-room.ensures, whole_block c.format-format.result, bounds (turn (goal.at.put_bytes-requires-clause-room c).After-min-part), length-take (c.loop-done.done + c.min-part.result - c.loop-done.done) (drop c.loop-done.done c.args.bytes.now))

pub settle-requires-clause-block : goal.settle-requires-clause-block
settle-requires-clause-block c = omega (arith, block_is_inside (turn (goal.at.settle-requires-clause-block c).After-min-part) c.data_block-block.ensures, ap (λ (n : ℕ). n / 512) c.put_bytes.ensures.rest.same_length)

pub long-holder-requires-clause-block : goal.long-holder-requires-clause-block
long-holder-requires-clause-block c =
    let settled : IsSettled c.format-format.result c.data_block-block.result c.put_bytes.new.self c.match-format.image =
    elim c.match-format.branch [ in-Ofs w ↦ inl (w.in-Ofs.is, w.settle.new.self, w.image-is, w.settle.ensures.sum, w.settle.ensures.rest) | in-Ffs w ↦ inr (w.in-Ffs.is, w.image-is) ] in
    holder_inside_new (turn (goal.at.long-holder-requires-clause-block c).After-min-part) c.data_block-block.ensures (part (goal.at.long-holder-requires-clause-block c).After-min-part) (written (goal.at.long-holder-requires-clause-block c).After-put_bytes (bounds (turn (goal.at.long-holder-requires-clause-block c).After-min-part)).1 settled)

pub loop-done-preserved-then-at-part-eq0 : goal.loop-done-preserved-then-at-part-eq0
loop-done-preserved-then-at-part-eq0 c =
    let t = turn (goal.at.loop-done-preserved-then-at-part-eq0 c).After-min-part in
    let is = part (goal.at.loop-done-preserved-then-at-part-eq0 c).After-min-part in
    let settled : IsSettled c.format-format.result c.data_block-block.result c.put_bytes.new.self c.match-format.image =
    elim c.match-format.branch [ in-Ofs w ↦ inl (w.in-Ofs.is, w.settle.new.self, w.image-is, w.settle.ensures.sum, w.settle.ensures.rest) | in-Ffs w ↦ inr (w.in-Ffs.is, w.image-is) ] in
    let w = written (goal.at.loop-done-preserved-then-at-part-eq0 c).After-put_bytes (bounds t).1 settled in
    record { below = (bounds t).2; grown = grown_on t c.data_block-block.ensures is w c.requires.writable; bound = bound_on t c.data_block-block.ensures is w c.loop-done.invariant.bound; written = written_more t c.data_block-block.ensures is w; holder = λ l. holder_next t c.data_block-block.ensures is w c.if-at-part-eq0.true c.long-holder.ensures }

pub loop-done-preserved : goal.loop-done-preserved
loop-done-preserved c =
    let t = turn (goal.at.loop-done-preserved c).After-min-part in
    let is = part (goal.at.loop-done-preserved c).After-min-part in
    let settled : IsSettled c.format-format.result c.data_block-block.result c.put_bytes.new.self c.match-format.image =
    elim c.match-format.branch [ in-Ofs w ↦ inl (w.in-Ofs.is, w.settle.new.self, w.image-is, w.settle.ensures.sum, w.settle.ensures.rest) | in-Ffs w ↦ inr (w.in-Ffs.is, w.image-is) ] in
    let w = written (goal.at.loop-done-preserved c).After-put_bytes (bounds t).1 settled in
    record { below = (bounds t).2; grown = grown_on t c.data_block-block.ensures is w c.requires.writable; bound = bound_on t c.data_block-block.ensures is w c.loop-done.invariant.bound; written = written_more t c.data_block-block.ensures is w; holder = λ l. holder_same t c.data_block-block.ensures is w c.if-at-part-eq0.false }

pub loop-done-init : goal.loop-done-init
loop-done-init c = record {
  below = omega arith;
  grown = subst (λ (n : ℕ). GrowsFile c.args.image.now c.args.file n c.lengthen-bound.new.image) (size_is (goal.at.loop-done-init c).After-lengthen-bound) c.lengthen-bound.ensures.grown;
  bound = c.lengthen-bound.ensures.below;
  written = overlaid_none (contents c.lengthen-bound.new.image c.args.file) c.args.pos;
  holder = λ l. search rules;
}

pub returns-clause-bytes : goal.returns-clause-bytes
returns-clause-bytes c =
    let xs = contents c.args.image.now c.args.file in
    let size = size_is (goal.at.returns-clause-bytes c).After-lengthen-bound in
    let whole : take c.loop-done.done c.args.bytes.now ≡ c.args.bytes.now = take_all c.loop-done.done c.args.bytes.now c.loop-done-test.false in
    c.loop-done.invariant.written
    ∙ ap (overlaid (contents c.lengthen-bound.new.image c.args.file) c.args.pos) whole
    ∙ overlaid_longer (format_of c.args.image.now) xs (contents c.lengthen-bound.new.image c.args.file) c.max-size.result c.args.pos c.args.bytes.now
    c.lengthen-bound.ensures.bytes (omega (arith, size)) c.requires.start (omega (arith, size)) (λ l. omega (arith, l, size))
    ∙ overlaid_zeros xs c.args.pos c.args.bytes.now (c.max-size.result - length xs) c.requires.start (omega (arith, size))
