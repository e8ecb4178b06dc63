use Rattle.ados_data.proofs.Common.{◌≡◌, ◌≤◌, ◌<◌, ◌-◌, ◌+◌, ◌/◌, ◌%◌, ◌∷◌, suc, ℕ, length, slice_index, refl, sym, ap, ◌∙◌, subst, arith, FIRST_POINTER, Format, block_count, long, IsInside, format_of, IsSize, data_count, extension_count, contents, data_blocks, extension_blocks, pointer_block, IsResized}
use Rattle.ados_data.proofs.Places.{readable}
use Rattle.ados_data.proofs.Cutting.{Cutting, IsCuttable, cutting_begun, holder_is_inside, last_inside, last_apart, entered_row, dropped, holder_in, block_inside, few, fewer, rows, is_cut}
use Rattle.ados_data.proofs.Leaving.{summed_after}
use Rattle.ados_data.proofs.shorten.cut.Goals as goal
use Rattle.ados_data.proofs.shorten.cut.Goals.{After-data_count-count, After-pointer_block-holder, After-data_block-last, In-loop-i, After-enter-cursor}

-- the file has fewer blocks afterwards
cuttable : (c : After-data_count-count) → IsCuttable c.args.image.now c.args.file c.args.size c.data_count-count.result
cuttable c = record {
  writable = c.requires.writable;
  size_ok = subst IsSize c.blocks-2.ensures.count c.blocks-2.ensures.size;
  shorter = omega (arith, c.requires.shorter, c.if-size-old.false, c.long-old.ensures, c.requires.writable.lawful.holds.size);
  count = c.data_count-count.ensures ∙ ap (λ (f : Format). data_count f c.args.size) c.format-format.ensures;
}

-- the number of its blocks before
all : (c : After-data_count-count) → c.data_count-all.result ≡ length (data_blocks c.args.image.now c.args.file)
all c =
    c.data_count-all.ensures ∙ ap (data_count c.format-format.result) (c.long-old.ensures ∙ c.requires.writable.lawful.holds.size)
    ∙ ap (λ (f : Format). data_count f (length (contents c.args.image.now c.args.file))) c.format-format.ensures ∙ sym c.requires.writable.lawful.data_fits

-- its last pointer block afterwards
holder_here : (c : After-pointer_block-holder) → c.pointer_block-holder.result ≡ pointer_block c.args.image.now c.args.file (extension_count c.data_count-count.result)
holder_here c = c.pointer_block-holder.ensures ∙ ap (pointer_block c.args.image.now c.args.file) c.extension_count.ensures

-- its last data block afterwards
last_here : (c : After-data_block-last) → c.data_block-last.result ≡ long c.args.image.now c.pointer_block-holder.result (FIRST_POINTER - (c.data_count-count.result - 1) % 72)
last_here c = c.data_block-last.ensures ∙ ap (λ (n : ℕ). long c.args.image.now c.pointer_block-holder.result (FIRST_POINTER - n % 72)) c.saturating_sub.ensures

pub long-old-requires-clause-block : goal.long-old-requires-clause-block
long-old-requires-clause-block c = (readable c.args.image.now c.args.file c.requires.writable.lawful).headers_inside 0 (omega arith)

pub pointer_block-holder-requires-clause-readable : goal.pointer_block-holder-requires-clause-readable
pointer_block-holder-requires-clause-readable c = readable c.args.image.now c.args.file c.requires.writable.lawful

pub pointer_block-holder-requires-clause-within : goal.pointer_block-holder-requires-clause-within
pointer_block-holder-requires-clause-within c = omega (arith, c.extension_count.ensures, fewer (cuttable (goal.at.pointer_block-holder-requires-clause-within c).After-data_count-count))

pub long-next-requires-clause-block : goal.long-next-requires-clause-block
long-next-requires-clause-block c =
    let within = fewer (cuttable (goal.at.long-next-requires-clause-block c).After-data_count-count) in
    omega (arith, holder_here (goal.at.long-next-requires-clause-block c).After-pointer_block-holder, (readable c.args.image.now c.args.file c.requires.writable.lawful).headers_inside (extension_count c.data_count-count.result) within)

pub data_block-last-requires : goal.data_block-last-requires
data_block-last-requires c =
    let within = fewer (cuttable (goal.at.data_block-last-requires c).After-data_count-count) in
    omega (arith, holder_here (goal.at.data_block-last-requires c).After-pointer_block-holder, (readable c.args.image.now c.args.file c.requires.writable.lawful).headers_inside (extension_count c.data_count-count.result) within)

pub resize-requires-clause-file : goal.resize-requires-clause-file
resize-requires-clause-file c = (readable c.args.image.now c.args.file c.requires.writable.lawful).headers_inside 0 (omega arith)

pub resize-requires-clause-holder : goal.resize-requires-clause-holder
resize-requires-clause-holder c =
    holder_is_inside (cuttable (goal.at.resize-requires-clause-holder c).After-data_count-count) (holder_here (goal.at.resize-requires-clause-holder c).After-pointer_block-holder) (last_here (goal.at.resize-requires-clause-holder c).After-data_block-last) c.long-next.ensures

pub resize-requires-clause-last : goal.resize-requires-clause-last
resize-requires-clause-last c = λ l.
    last_inside (cuttable (goal.at.resize-requires-clause-last c).After-data_count-count) (holder_here (goal.at.resize-requires-clause-last c).After-pointer_block-holder) (last_here (goal.at.resize-requires-clause-last c).After-data_block-last) c.long-next.ensures

pub resize-requires-clause-apart : goal.resize-requires-clause-apart
resize-requires-clause-apart c = λ l.
    last_apart (cuttable (goal.at.resize-requires-clause-apart c).After-data_count-count) (holder_here (goal.at.resize-requires-clause-apart c).After-pointer_block-holder) (last_here (goal.at.resize-requires-clause-apart c).After-data_block-last) c.long-next.ensures

pub loop-i-init : goal.loop-i-init
loop-i-init c =
    cutting_begun (cuttable (goal.at.loop-i-init c).After-data_count-count) (holder_here (goal.at.loop-i-init c).After-pointer_block-holder) (last_here (goal.at.loop-i-init c).After-data_block-last) c.long-next.ensures
    (subst (λ (f : Format). IsResized c.args.image.now f c.args.file c.pointer_block-holder.result c.data_block-last.result c.data_count-count.result c.args.size c.resize.new.image) c.format-format.ensures c.resize.ensures)

-- a block is left in the loop
more : (c : In-loop-i) → c.data_count-all.result ≡ length (data_blocks c.args.image.now c.args.file) → c.loop-i.i < length (data_blocks c.args.image.now c.args.file)
more c whole = omega (arith, c.loop-i-test.true, whole)

-- the blocks before it are freed, and its pointer block is the current one
freed : (c : After-enter-cursor) → IsCuttable c.args.image.now c.args.file c.args.size c.data_count-count.result → c.loop-i.i < length (data_blocks c.args.image.now c.args.file) → Cutting (data_blocks c.args.image.now c.args.file) (extension_blocks c.args.image.now c.args.file) (format_of c.args.image.now) c.args.file c.data_count-count.result c.args.size c.loop-i.i (c.loop-i.i / 72) c.enter-cursor.result.holder c.enter-cursor.result.next c.args.image.now c.enter-cursor.new.image
freed c w left = entered_row w c.loop-i.invariant c.loop-i.auto.i left c.enter-cursor.ensures

pub enter-cursor-requires-clause-pages : goal.enter-cursor-requires-clause-pages
enter-cursor-requires-clause-pages c = c.loop-i.invariant.stands.map.pages

pub enter-cursor-requires-clause-inside : goal.enter-cursor-requires-clause-inside
enter-cursor-requires-clause-inside c = λ l z.
    let w = cuttable (goal.at.enter-cursor-requires-clause-inside c).After-data_count-count in
    let left = more (goal.at.enter-cursor-requires-clause-inside c).In-loop-i (all (goal.at.enter-cursor-requires-clause-inside c).After-data_count-count) in
    let row : suc ((c.loop-i.i - 1) / 72) ≤ length (extension_blocks c.args.image.now c.args.file) = omega (arith, l, z, rows w c.loop-i.i left) in
    subst (IsInside (block_count c.loop-i.image)) (sym c.loop-i.invariant.next_is)
    (subst (λ (n : ℕ). IsInside n (slice_index (c.args.file ∷ extension_blocks c.args.image.now c.args.file) (suc ((c.loop-i.i - 1) / 72)))) (sym c.loop-i.invariant.same_blocks) (c.requires.writable.lawful.places.headers_inside (suc ((c.loop-i.i - 1) / 72)) row))

pub data_block-block-requires : goal.data_block-block-requires
data_block-block-requires c =
    let w = cuttable (goal.at.data_block-block-requires c).After-data_count-count in
    let left = more (goal.at.data_block-block-requires c).In-loop-i (all (goal.at.data_block-block-requires c).After-data_count-count) in
    holder_in w (freed (goal.at.data_block-block-requires c).After-enter-cursor w left) c.loop-i.auto.i (omega (arith, c.loop-i.auto.i)) (rows w c.loop-i.i left)

pub give_back-requires-clause-pages : goal.give_back-requires-clause-pages
give_back-requires-clause-pages c =
    let w = cuttable (goal.at.give_back-requires-clause-pages c).After-data_count-count in
    let left = more (goal.at.give_back-requires-clause-pages c).In-loop-i (all (goal.at.give_back-requires-clause-pages c).After-data_count-count) in
    (freed (goal.at.give_back-requires-clause-pages c).After-enter-cursor w left).stands.map.pages

pub give_back-requires-clause-inside : goal.give_back-requires-clause-inside
give_back-requires-clause-inside c =
    let w = cuttable (goal.at.give_back-requires-clause-inside c).After-data_count-count in
    let left = more (goal.at.give_back-requires-clause-inside c).In-loop-i (all (goal.at.give_back-requires-clause-inside c).After-data_count-count) in
    block_inside w (freed (goal.at.give_back-requires-clause-inside c).After-enter-cursor w left) c.loop-i.auto.i (omega (arith, c.loop-i.auto.i)) left refl c.data_block-block.ensures

pub loop-i-preserved : goal.loop-i-preserved
loop-i-preserved c =
    let w = cuttable (goal.at.loop-i-preserved c).After-data_count-count in
    let left = more (goal.at.loop-i-preserved c).In-loop-i (all (goal.at.loop-i-preserved c).After-data_count-count) in
    let row : c.loop-i.i / 72 ≡ (c.loop-i.i + 1 - 1) / 72 = omega arith in
    subst (λ (r : ℕ). Cutting (data_blocks c.args.image.now c.args.file) (extension_blocks c.args.image.now c.args.file) (format_of c.args.image.now) c.args.file c.data_count-count.result c.args.size (c.loop-i.i + 1) r c.enter-cursor.result.holder c.enter-cursor.result.next c.args.image.now c.give_back.new.image) row
    (dropped w (freed (goal.at.loop-i-preserved c).After-enter-cursor w left) c.loop-i.auto.i (omega (arith, c.loop-i.auto.i)) left refl (rows w c.loop-i.i left) c.data_block-block.ensures c.give_back.ensures.freed c.give_back.ensures.pages)

pub returns : goal.returns
returns c =
    let p = cuttable (goal.at.returns c).After-data_count-count in
    let done : c.loop-i.i ≡ length (data_blocks c.args.image.now c.args.file) = omega (arith, c.loop-i.auto.i-end, c.loop-i-test.false, all (goal.at.returns c).After-data_count-count, few p) in
    let cut = is_cut p (ap (λ (n : ℕ). (n - 1) / 72) done)
    (subst (λ (n : ℕ). Cutting (data_blocks c.args.image.now c.args.file) (extension_blocks c.args.image.now c.args.file) (format_of c.args.image.now) c.args.file c.data_count-count.result c.args.size n ((c.loop-i.i - 1) / 72) c.loop-i.cursor.holder c.loop-i.cursor.next c.args.image.now c.loop-i.image) done c.loop-i.invariant) in
    record { writable = cut.writable; format = cut.same_format; bytes = cut.bytes; free = cut.count; leaves = cut.leaves; keeps = cut.keeps; free_stays = cut.free_stays; data_stays = cut.data_stays; header = cut.header; blocks = cut.blocks_are; extensions = cut.extensions_are; freed = cut.freed_data; freed_extensions = cut.freed_extensions; sums = summed_after c.args.image.now c.loop-i.image c.args.file cut.writable cut.leaves }
