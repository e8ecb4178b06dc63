use Rattle.adf_where.proofs.Common.{◌+◌, ◌++◌, at_any_err}
use Rattle.adf_where.specs.steps.Parts.{block_part, head_part}
use Rattle.adf_where.proofs.Passing.{passes_front, passes_here, passes_none, passes_on, writes_none}
use Rattle.adf_where.proofs.TellingFaulty.{block_end, block_front, block_more, block_to}
use Rattle.adf_where.proofs.faulty_text.write_block.Goals as goal

pub returns-in_err-push_head-clause-front : goal.returns-in_err-push_head-clause-front
returns-in_err-push_head-clause-front g c = at_any_err _ (writes_none _ _)

pub loop-at-init : goal.loop-at-init
loop-at-init g c = passes_none (g.W.Write.contents c.args.writer.now) (c.args.text.now.items ++ head_part c.args.json c.args.blocks c.args.told.now) _ c.in_ok-push_head.ensures

pub returns-in_err-push_place-clause-front : goal.returns-in_err-push_place-clause-front
returns-in_err-push_place-clause-front g c =
    let kept = c.args.text.now.items in
    let told = c.args.told.now in
    let json = c.args.json in
    at_any_err _
    (passes_here (g.W.Write.contents c.args.writer.now) (g.W.Write.contents c.loop-at.writer) (block_to json kept c.args.blocks told c.loop-at.at) c.loop-at.text.items c.loop-at.invariant
    (kept ++ block_part json c.args.blocks told) (block_front json kept c.args.blocks told c.loop-at.at))

pub returns-in_err-write_when_long-clause-front : goal.returns-in_err-write_when_long-clause-front
returns-in_err-write_when_long-clause-front g c =
    let kept = c.args.text.now.items in
    let told = c.args.told.now in
    let json = c.args.json in
    let at = c.loop-at.at in
    let old = g.W.Write.contents c.args.writer.now in
    let mid = g.W.Write.contents c.loop-at.writer in
    let more = block_more json kept c.args.blocks told old mid c.loop-at.text.items c.push_place.new.text.items at _ c.loop-at.invariant c.loop-at-test.true c.in_ok-push_place.ensures in
    at_any_err _
    (passes_front old mid (block_to json kept c.args.blocks told (at + 1)) c.push_place.new.text.items more _ (kept ++ block_part json c.args.blocks told) (block_front json kept c.args.blocks told (at + 1))
    c.in_err-write_when_long.ensures.front)

pub loop-at-preserved : goal.loop-at-preserved
loop-at-preserved g c =
    let kept = c.args.text.now.items in
    let told = c.args.told.now in
    let json = c.args.json in
    let at = c.loop-at.at in
    let old = g.W.Write.contents c.args.writer.now in
    let mid = g.W.Write.contents c.loop-at.writer in
    let more = block_more json kept c.args.blocks told old mid c.loop-at.text.items c.push_place.new.text.items at _ c.loop-at.invariant c.loop-at-test.true c.in_ok-push_place.ensures in
    passes_on old mid (block_to json kept c.args.blocks told (at + 1)) c.push_place.new.text.items more _ _ c.in_ok-write_when_long.ensures.ok

pub returns-in_err-push_tail-clause-front : goal.returns-in_err-push_tail-clause-front
returns-in_err-push_tail-clause-front g c =
    let kept = c.args.text.now.items in
    let told = c.args.told.now in
    let json = c.args.json in
    at_any_err _
    (passes_here (g.W.Write.contents c.args.writer.now) (g.W.Write.contents c.loop-at.writer) (block_to json kept c.args.blocks told c.loop-at.at) c.loop-at.text.items c.loop-at.invariant
    (kept ++ block_part json c.args.blocks told) (block_front json kept c.args.blocks told c.loop-at.at))

pub returns-clause-ok : goal.returns-clause-ok
returns-clause-ok g c =
    block_end c.args.json c.args.text.now.items c.args.blocks c.args.told.now (g.W.Write.contents c.args.writer.now) (g.W.Write.contents c.loop-at.writer) c.loop-at.text.items c.push_tail.new.text.items c.loop-at.at
    c.loop-at.invariant c.loop-at-test.false c.in_ok-push_tail.ensures
