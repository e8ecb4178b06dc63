use Rattle.ados_check.proofs.Common.{◌≤◌, arith, block_count, page_count}
use Rattle.ados_check.proofs.Moves.{put_away, skipped_all}
use Rattle.ados_check.proofs.reaching.reach.Goals as goal

pub pass_all-requires-clause-hand : goal.pass_all-requires-clause-hand
pass_all-requires-clause-hand c =
    let table = c.table_from-from in
    skipped_all c.args.source.now.bytes c.next.new.self.marks.items c.next.new.self.pending.items c.in-Some.block 6 table.result c.in-Some.role table.ensures.from
    (λ i from to. table.ensures.none i to) c.in-Some.ensures.hand

pub pass_all-requires-in-Some-clause-hand : goal.pass_all-requires-in-Some-clause-hand
pass_all-requires-in-Some-clause-hand c =
    let image = c.args.source.now.bytes in
    let passed = c.pass_all.new.self in
    skipped_all image passed.marks.items passed.pending.items c.in-Some.block 78 c.fields_from.result c.in-Some.role c.fields_from.ensures.from
    (λ i from to. c.fields_from.ensures.none image c.in-Some.block i from to) c.in_ok-pass_all.ensures.hand

pub loop-block-preserved : goal.loop-block-preserved
loop-block-preserved c =
    let image = c.args.source.now.bytes in
    let passed = c.pass_all-in-Some.new.self in
    let pages : page_count (block_count image) ≤ 25 = omega (arith, c.blocks-2.ensures.count, c.blocks-2.ensures.size) in
    record {
      between = put_away image passed.marks.items passed.pending.items c.in-Some.block c.in-Some.role pages c.in_ok-pass_all-2.ensures.hand;
      capacity = omega (arith, c.loop-block.invariant.capacity, c.next.ensures.capacity, c.pass_all.ensures.capacity, c.pass_all-in-Some.ensures.capacity);
    }
