use Rattle.ados_check.proofs.Common.{◌≡◌, ◌<◌, ◌≤◌, ◌+◌, ◌/◌, ℕ, Option, take, slice_index, refl, sym, ap, ◌∙◌, subst, arith, below_more, sum_by, unwrap_or, unwrap_or-slice_get, held_count, Place}
use Rattle.ados_check.proofs.DataRuling.{few_held}
use Rattle.ados_check.proofs.Headers.{first_link, header_inside}
use Rattle.ados_check.proofs.Pointed.{blocks_upto, holder_within}
use Rattle.ados_check.proofs.Linked.{IsPlacedAt, placed, first-is, next_holder, holder_inside, named_block, named_inside, is_placed, sum_shown, sum_more, linked_file}
use Rattle.ados_check.proofs.FilesTold.{data_told, header_told, holder_told}
use Rattle.ados_check.proofs.Ruling.{stable}
use Rattle.ados_check.proofs.chain.check_chain.Goals as goal

pub loop-position-init : goal.loop-position-init
loop-position-init c = record {
  holder = refl;
  block = c.first_pointer-block.ensures ∙ first-is c.args.source.now.bytes c.args.file c.args.count c.requires.reached c.requires.counts;
  placed = λ k l. absurd (omega (arith, l));
  sum = refl;
  few = omega arith;
}

pub holder_behind-holder-requires-clause-told : goal.holder_behind-holder-requires-clause-told
holder_behind-holder-requires-clause-told c =
    holder_told c.args.source.now c.args.file c.requires.reached c.loop-position.holder (c.loop-position.position / 72) c.loop-position.invariant.holder
    (holder_within c.args.source.now.bytes c.args.file c.args.count c.requires.reached c.requires.counts c.loop-position.position c.loop-position-test.true) 126

pub pointer_at-next-requires-clause-inside : goal.pointer_at-next-requires-clause-inside
pointer_at-next-requires-clause-inside c = λ l.
    let holder = next_holder c.args.source.now.bytes c.args.file c.loop-position.holder c.holder_behind-holder.result c.loop-position.position c.loop-position.invariant.holder c.holder_behind-holder.ensures.next c.holder_behind-holder.ensures.same in
    omega (arith, holder, holder_inside c.args.source.now.bytes c.args.file c.args.count c.requires.reached c.requires.counts (c.loop-position.position + 1) l)

pub pointer_at-next-requires-clause-told : goal.pointer_at-next-requires-clause-told
pointer_at-next-requires-clause-told c = λ l.
    holder_told c.args.source.now c.args.file c.requires.reached c.holder_behind-holder.result ((c.loop-position.position + 1) / 72)
    (next_holder c.args.source.now.bytes c.args.file c.loop-position.holder c.holder_behind-holder.result c.loop-position.position c.loop-position.invariant.holder c.holder_behind-holder.ensures.next c.holder_behind-holder.ensures.same)
    (holder_within c.args.source.now.bytes c.args.file c.args.count c.requires.reached c.requires.counts (c.loop-position.position + 1) l)

pub check_place-requires-clause-inside : goal.check_place-requires-clause-inside
check_place-requires-clause-inside c =
    named_inside c.args.source.now.bytes c.args.file c.args.count c.requires.reached c.requires.counts c.loop-position.position c.loop-position.block c.loop-position-test.true c.loop-position.invariant.block

pub check_place-requires-clause-at : goal.check_place-requires-clause-at
check_place-requires-clause-at c =
    let image = c.args.source.now.bytes in
    let holder = next_holder image c.args.file c.loop-position.holder c.holder_behind-holder.result c.loop-position.position c.loop-position.invariant.holder c.holder_behind-holder.ensures.next c.holder_behind-holder.ensures.same in
    let next = named_block image c.args.file c.args.count c.requires.reached c.requires.counts (c.loop-position.position + 1) c.holder_behind-holder.result c.pointer_at-next.result (λ _. holder) c.pointer_at-next.ensures in
    is_placed image c.args.file c.args.count c.requires.reached c.requires.counts (record { block = c.loop-position.block; position = c.from.result; next = c.pointer_at-next.result }) c.loop-position.position c.from.ensures
    c.loop-position-test.true c.loop-position.invariant.block next (omega (arith, c.from.ensures, c.loop-position-test.true))

pub check_place-requires-clause-told : goal.check_place-requires-clause-told
check_place-requires-clause-told c =
    header_told c.args.source.now c.args.file c.requires.reached c.args.count c.requires.counts c.requires.ofs c.loop-position.block c.loop-position.position c.loop-position.invariant.block c.loop-position-test.true

pub long-requires-clause-block : goal.long-requires-clause-block
long-requires-clause-block c =
    (named_inside c.args.source.now.bytes c.args.file c.args.count c.requires.reached c.requires.counts c.loop-position.position c.loop-position.block c.loop-position-test.true c.loop-position.invariant.block).1

pub long-requires-clause-told : goal.long-requires-clause-told
long-requires-clause-told c =
    data_told c.args.source.now c.args.file c.requires.reached c.args.count c.requires.counts c.requires.ofs c.loop-position.block c.loop-position.position 3 c.loop-position.invariant.block c.loop-position-test.true (omega arith)

pub loop-position-preserved : goal.loop-position-preserved
loop-position-preserved c =
    let image = c.args.source.now.bytes in
    let blocks = blocks_upto image c.args.file c.args.count in
    let k = c.loop-position.position in
    let holder = next_holder image c.args.file c.loop-position.holder c.holder_behind-holder.result k c.loop-position.invariant.holder c.holder_behind-holder.ensures.next c.holder_behind-holder.ensures.same in
    let next = named_block image c.args.file c.args.count c.requires.reached c.requires.counts (k + 1) c.holder_behind-holder.result c.pointer_at-next.result (λ _. holder) c.pointer_at-next.ensures in
    let place : Place = record { block = c.loop-position.block; position = c.from.result; next = c.pointer_at-next.result } in
    let held : held_count image (slice_index blocks k) ≡ c.from-sum.result = ap (held_count image) (sym c.loop-position.invariant.block) ∙ sym c.long.ensures ∙ sym c.from-sum.ensures in
    let few : held_count image c.loop-position.block ≤ 488 = few_held image place c.in_ok-check_place.ensures in
    record {
      holder = holder;
      block = c.unwrap_or-block.ensures ∙ ap (λ (o : Option ℕ). unwrap_or o 0) next ∙ unwrap_or-slice_get blocks (k + 1) 0;
      placed = below_more _ _ c.loop-position.invariant.placed (placed image c.args.file c.args.count place k c.from.ensures c.loop-position.invariant.block next c.in_ok-check_place.ensures);
      sum = sum_more image c.args.file c.args.count c.requires.reached c.requires.counts k c.loop-position.sum c.from-sum.result c.loop-position-test.true c.loop-position.invariant.sum held;
      few = omega (arith, few, c.long.ensures, c.from-sum.ensures, c.loop-position.invariant.few);
    }

pub has_other_size-requires-clause-inside : goal.has_other_size-requires-clause-inside
has_other_size-requires-clause-inside c = header_inside c.args.source.now.bytes c.args.file c.requires.reached 0 (omega arith)

pub returns-then-has_other_size : goal.returns-then-has_other_size
returns-then-has_other_size c =
    let image = c.args.source.now.bytes in
    let last : c.loop-position.position ≡ c.args.count = omega (arith, c.loop-position-test.false, c.loop-position.auto.position-end) in
    let sum = c.loop-position.invariant.sum ∙ ap (λ (k : ℕ). sum_by (held_count image) (take k (blocks_upto image c.args.file c.args.count))) last in
    sum_shown image c.args.file c.args.count c.requires.reached c.requires.counts c.requires.ofs c.loop-position.sum sum (c.if-has_other_size.ensures.0 refl)

pub returns : goal.returns
returns c =
    let image = c.args.source.now.bytes in
    let last : c.loop-position.position ≡ c.args.count = omega (arith, c.loop-position-test.false, c.loop-position.auto.position-end) in
    let sum = ap (λ (k : ℕ). sum_by (held_count image) (take k (blocks_upto image c.args.file c.args.count))) (sym last) ∙ sym c.loop-position.invariant.sum in
    linked_file image c.args.file c.args.count c.requires.reached c.requires.counts c.requires.ofs c.requires.size
    (first_link image c.args.file c.args.entry c.requires.entry c.requires.reached.is_file.secondary c.requires.ofs c.in_ok-check_field.ensures)
    (subst (λ (n : ℕ). (k : ℕ) → k < n → IsPlacedAt image c.args.file c.args.count k) last c.loop-position.invariant.placed)
    (sum ∙ stable _ _ (λ n. let t = c.if-has_other_size.ensures.1 n in cc t))
