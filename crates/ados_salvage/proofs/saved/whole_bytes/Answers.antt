use Rattle.ados_salvage.proofs.Common.{◌≡◌, ◌+◌, ◌-◌, length, min, refl, sym, ap, ◌∙◌, arith, readable, format_of, contents, data_count}
use Rattle.ados_salvage.proofs.Copying.{block_inside, block_is, copied_all, copied_more, holder_inside, holder_on, holder_stays}
use Rattle.ados_salvage.proofs.saved.whole_bytes.Goals as goal
use Rattle.ados_salvage.proofs.saved.whole_bytes.Goals.{then-i-eq0, else-i-eq0}

pub long-block-requires-clause-block : goal.long-block-requires-clause-block
long-block-requires-clause-block c =
    let image = c.args.image.now in
    let whole : c.long-size.result ≡ length (contents image c.args.file) = c.long-size.ensures ∙ c.requires.lawful.holds.size in
    let needed : c.data_needed-i-end.result ≡ data_count (format_of image) c.long-size.result = c.data_needed-i-end.ensures ∙ ap (data_count (format_of image)) (sym c.long-size.ensures) in
    holder_inside image c.args.file (readable image c.args.file c.requires.lawful) c.long-size.result whole c.loop-i.i c.loop-i.holder (omega (arith, c.loop-i-test.true, needed)) c.loop-i.invariant.holder

pub block-requires : goal.block-requires
block-requires c =
    let image = c.args.image.now in
    let s = readable image c.args.file c.requires.lawful in
    let whole : c.long-size.result ≡ length (contents image c.args.file) = c.long-size.ensures ∙ c.requires.lawful.holds.size in
    let needed : c.data_needed-i-end.result ≡ data_count (format_of image) c.long-size.result = c.data_needed-i-end.ensures ∙ ap (data_count (format_of image)) (sym c.long-size.ensures) in
    block_inside image c.args.file s c.long-size.result whole c.loop-i.i c.long-block.result (omega (arith, c.loop-i-test.true, needed))
    (block_is image c.args.file c.loop-i.i c.loop-i.holder c.long-block.result c.loop-i.invariant.holder c.long-block.ensures)

pub long-holder-requires-clause-block : goal.long-holder-requires-clause-block
long-holder-requires-clause-block c =
    let image = c.args.image.now in
    let whole : c.long-size.result ≡ length (contents image c.args.file) = c.long-size.ensures ∙ c.requires.lawful.holds.size in
    let needed : c.data_needed-i-end.result ≡ data_count (format_of image) c.long-size.result = c.data_needed-i-end.ensures ∙ ap (data_count (format_of image)) (sym c.long-size.ensures) in
    holder_inside image c.args.file (readable image c.args.file c.requires.lawful) c.long-size.result whole c.loop-i.i c.loop-i.holder (omega (arith, c.loop-i-test.true, needed)) c.loop-i.invariant.holder

pub loop-i-preserved : goal.loop-i-preserved
loop-i-preserved c =
    let image = c.args.image.now in
    let s = readable image c.args.file c.requires.lawful in
    let whole : c.long-size.result ≡ length (contents image c.args.file) = c.long-size.ensures ∙ c.requires.lawful.holds.size in
    let needed : c.data_needed-i-end.result ≡ data_count (format_of image) c.long-size.result = c.data_needed-i-end.ensures ∙ ap (data_count (format_of image)) (sym c.long-size.ensures) in
    let behind : c.min-behind.result ≡ min 512 (c.data_start-start.result + (c.long-size.result - length c.loop-i.bytes.items)) = omega (arith, c.min-behind.ensures, c.len.ensures, c.loop-i.bytes.ok.0) in
    record {
      holder = elim c.if-i-eq0.branch [
        | then-i-eq0 w ↦
            w.holder-is ∙ holder_on image c.args.file c.loop-i.i c.loop-i.holder w.long-holder.result w.if-i-eq0.true c.loop-i.invariant.holder w.long-holder.ensures
        | else-i-eq0 w ↦ w.holder-is ∙ holder_stays image c.args.file c.loop-i.i c.loop-i.holder w.if-i-eq0.false c.loop-i.invariant.holder
      ];
      bytes = copied_more image c.args.file s c.long-size.result whole c.loop-i.i c.data_start-start.result c.min-behind.result c.long-block.result c.loop-i.bytes.items c.block.result.now _ c.extend_from_slice.new.self.items
          (omega (arith, c.loop-i-test.true, needed)) c.data_start-start.ensures.start c.loop-i.invariant.bytes behind
          (block_is image c.args.file c.loop-i.i c.loop-i.holder c.long-block.result c.loop-i.invariant.holder c.long-block.ensures)
          c.block.ensures.bytes c.block.ensures.length refl c.in_ok-extend_from_slice.ensures.items;
    }

pub returns : goal.returns
returns c =
    let image = c.args.image.now in
    let whole : c.long-size.result ≡ length (contents image c.args.file) = c.long-size.ensures ∙ c.requires.lawful.holds.size in
    let needed : c.data_needed-i-end.result ≡ data_count (format_of image) c.long-size.result = c.data_needed-i-end.ensures ∙ ap (data_count (format_of image)) (sym c.long-size.ensures) in
    copied_all image c.args.file c.loop-i.i c.long-size.result c.loop-i.bytes.items whole (omega (arith, c.loop-i-test.false, c.loop-i.auto.i-end, needed)) c.loop-i.invariant.bytes
