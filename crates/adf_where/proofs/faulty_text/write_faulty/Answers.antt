use Rattle.adf_where.proofs.Common.{ℕ, ◌+◌, List, ◌++◌, refl, ap, ◌∙◌, at_any_err, on_err_weaker, on_ok_weaker}
use Rattle.std.specs.Io.KnownBytes.{Appends}
use Rattle.adf_io.specs.Prefix.{WritesFront}
use Rattle.adf_where.specs.steps.Parts.{blocks_text, opening}
use Rattle.adf_where.proofs.Passing.{passes_all, passes_front, passes_here, passes_none, passes_on, prefix_whole, writes_none}
use Rattle.adf_where.proofs.TellingFaulty.{faulty_end, faulty_front, faulty_more, faulty_to}
use Rattle.adf_where.proofs.faulty_text.write_faulty.Goals as goal

pub returns-in_err-text-clause-front : goal.returns-in_err-text-clause-front
returns-in_err-text-clause-front g c = at_any_err _ (writes_none _ _)

pub returns-in_err-extend_from_slice-clause-front : goal.returns-in_err-extend_from_slice-clause-front
returns-in_err-extend_from_slice-clause-front g c = at_any_err _ (writes_none _ _)

pub loop-place-init : goal.loop-place-init
loop-place-init g c =
    passes_none (g.W.Write.contents c.args.writer.now) (c.args.front.now ++ opening c.args.json) _
    (c.in_ok-extend_from_slice.ensures.items ∙ ap (λ (l : List ℕ). l ++ c.opening.result.now) c.in_ok-text.ensures.items ∙ ap (λ (l : List ℕ). c.args.front.now ++ l) c.opening.ensures)

pub returns-in_err-push_comma-clause-front : goal.returns-in_err-push_comma-clause-front
returns-in_err-push_comma-clause-front g c =
    let json = c.args.json in
    let line = c.args.front.now in
    let told = c.args.told.now in
    at_any_err _
    (passes_here (g.W.Write.contents c.args.writer.now) (g.W.Write.contents c.loop-place.writer) (faulty_to json line c.args.blocks told c.loop-place.place) c.loop-place.text.items c.loop-place.invariant
    (line ++ blocks_text json c.args.blocks told) (faulty_front json line c.args.blocks told c.loop-place.place))

pub returns-in_err-write_block-clause-front : goal.returns-in_err-write_block-clause-front
returns-in_err-write_block-clause-front g c =
    let json = c.args.json in
    let line = c.args.front.now in
    let told = c.args.told.now in
    let place = c.loop-place.place in
    let old = g.W.Write.contents c.args.writer.now in
    let mid = g.W.Write.contents c.loop-place.writer in
    let more = faulty_more json line c.args.blocks told old mid c.loop-place.text.items c.push_comma.new.text.items place _ c.loop-place.invariant c.in_ok-push_comma.ensures c.loop-place-test.true in
    at_any_err _
    (passes_front old mid (faulty_to json line c.args.blocks told (place + 1)) _ more _ (line ++ blocks_text json c.args.blocks told)
    (faulty_front json line c.args.blocks told (place + 1)) c.in_err-write_block.ensures.front)

pub loop-place-preserved : goal.loop-place-preserved
loop-place-preserved g c =
    let json = c.args.json in
    let line = c.args.front.now in
    let told = c.args.told.now in
    let place = c.loop-place.place in
    let old = g.W.Write.contents c.args.writer.now in
    let mid = g.W.Write.contents c.loop-place.writer in
    let more = faulty_more json line c.args.blocks told old mid c.loop-place.text.items c.push_comma.new.text.items place _ c.loop-place.invariant c.in_ok-push_comma.ensures c.loop-place-test.true in
    passes_on old mid (faulty_to json line c.args.blocks told (place + 1)) _ more _ _ c.in_ok-write_block.ensures.ok

pub returns-in_err-extend_from_slice-2-clause-front : goal.returns-in_err-extend_from_slice-2-clause-front
returns-in_err-extend_from_slice-2-clause-front g c =
    let json = c.args.json in
    let line = c.args.front.now in
    let told = c.args.told.now in
    at_any_err _
    (passes_here (g.W.Write.contents c.args.writer.now) (g.W.Write.contents c.loop-place.writer) (faulty_to json line c.args.blocks told c.loop-place.place) c.loop-place.text.items c.loop-place.invariant
    (line ++ blocks_text json c.args.blocks told) (faulty_front json line c.args.blocks told c.loop-place.place))

pub returns-clause-ok : goal.returns-clause-ok
returns-clause-ok g c =
    let json = c.args.json in
    let line = c.args.front.now in
    let told = c.args.told.now in
    let old = g.W.Write.contents c.args.writer.now in
    let mid = g.W.Write.contents c.loop-place.writer in
    let whole = line ++ blocks_text json c.args.blocks told in
    let all = faulty_end json line c.args.blocks told old mid c.loop-place.text.items c.as_slice.result.now c.loop-place.place c.loop-place.invariant c.loop-place-test.false
    (c.as_slice.ensures.value ∙ c.in_ok-extend_from_slice-2.ensures.items ∙ ap (λ (l : List ℕ). c.loop-place.text.items ++ l) c.object_end.ensures) in
    let done : Appends mid (g.W.Write.contents c.write_text.new.writer) c.as_slice.result.now → Appends old (g.W.Write.contents c.write_text.new.writer) whole =
    λ appended. passes_all old mid whole c.as_slice.result.now all _ appended in
    on_ok_weaker c.write_text.result done c.write_text.ensures.ok

pub returns-clause-front : goal.returns-clause-front
returns-clause-front g c =
    let json = c.args.json in
    let line = c.args.front.now in
    let told = c.args.told.now in
    let old = g.W.Write.contents c.args.writer.now in
    let mid = g.W.Write.contents c.loop-place.writer in
    let whole = line ++ blocks_text json c.args.blocks told in
    let all = faulty_end json line c.args.blocks told old mid c.loop-place.text.items c.as_slice.result.now c.loop-place.place c.loop-place.invariant c.loop-place-test.false
    (c.as_slice.ensures.value ∙ c.in_ok-extend_from_slice-2.ensures.items ∙ ap (λ (l : List ℕ). c.loop-place.text.items ++ l) c.object_end.ensures) in
    let front : WritesFront mid (g.W.Write.contents c.write_text.new.writer) c.as_slice.result.now → WritesFront old (g.W.Write.contents c.write_text.new.writer) whole =
    λ taken. passes_front old mid whole c.as_slice.result.now all _ whole (prefix_whole whole whole refl) taken in
    on_err_weaker c.write_text.result front c.write_text.ensures.front
