use Rattle.adf_where.proofs.Common.{ℕ, ◌+◌, ◌<◌, List, ◌++◌, length, get_or, refl, ap, ◌∙◌, arith, at_any_err, on_err_weaker, on_ok_weaker, Stands, Tree, count_same, seen, where_of}
use Rattle.std.specs.Io.KnownBytes.{Appends}
use Rattle.adf_block.specs.Image.{block_count}
use Rattle.adf_io.specs.Prefix.{Writes, WritesFront, WritesFrontOf}
use Rattle.adf_where.specs.steps.Parts.{IsTextOf, closing, opening}
use Rattle.adf_where.proofs.Passing.{passes_all, passes_front, passes_here, passes_none, passes_on, prefix_whole, writes_none}
use Rattle.adf_where.proofs.TellingOwned.{owned_end, owned_front, owned_fronts, owned_more, owned_to, owned_written, told_list}
use Rattle.adf_where.proofs.where_blocks.write_owned.Goals as goal

pub returns-in_err-text-clause-front : goal.returns-in_err-text-clause-front
returns-in_err-text-clause-front g c =
    at_any_err _ (owned_fronts c.args.volume.now.image c.args.owners.now c.requires.owners c.args.blocks.now c.requires.inside c.args.asking.json c.args.asking.unread.now _ _ (λ t s. writes_none _ _))

pub loop-place-init : goal.loop-place-init
loop-place-init g c = λ t s. passes_none (g.W.Write.contents c.args.writer.now) (opening c.args.asking.json) _ (c.in_ok-text.ensures.items ∙ c.opening.ensures)

pub owned_block-requires-clause-inside : goal.owned_block-requires-clause-inside
owned_block-requires-clause-inside g c = c.requires.inside c.loop-place.place 0 c.loop-place-test.true

pub returns-in_err-told-clause-front : goal.returns-in_err-told-clause-front
returns-in_err-told-clause-front g c =
    let blocks = c.args.blocks.now in
    let owners = c.args.owners.now in
    let json = c.args.asking.json in
    let unread = c.args.asking.unread.now in
    let place = c.loop-place.place in
    at_any_err _ (owned_fronts c.args.volume.now.image owners c.requires.owners blocks c.requires.inside json unread _ _
    (λ t s. passes_here _ _ (owned_to json unread t owners blocks place) c.loop-place.text.items (c.loop-place.invariant t s) (where_of json t.blocks (told_list t unread owners blocks)) (owned_front json unread t owners blocks place)))

pub returns-in_err-push_told-clause-front : goal.returns-in_err-push_told-clause-front
returns-in_err-push_told-clause-front g c =
    let blocks = c.args.blocks.now in
    let owners = c.args.owners.now in
    let json = c.args.asking.json in
    let unread = c.args.asking.unread.now in
    let place = c.loop-place.place in
    at_any_err _ (owned_fronts c.args.volume.now.image owners c.requires.owners blocks c.requires.inside json unread _ _
    (λ t s. passes_here _ _ (owned_to json unread t owners blocks place) c.loop-place.text.items (c.loop-place.invariant t s) (where_of json t.blocks (told_list t unread owners blocks)) (owned_front json unread t owners blocks place)))

pub returns-in_err-write_when_long-clause-front : goal.returns-in_err-write_when_long-clause-front
returns-in_err-write_when_long-clause-front g c =
    let blocks = c.args.blocks.now in
    let owners = c.args.owners.now in
    let json = c.args.asking.json in
    let unread = c.args.asking.unread.now in
    let place = c.loop-place.place in
    let old = g.W.Write.contents c.args.writer.now in
    let mid = g.W.Write.contents c.loop-place.writer in
    at_any_err _ (owned_fronts c.args.volume.now.image owners c.requires.owners blocks c.requires.inside json unread _ _
    (λ t s.
    let count = c.blocks-count.ensures.count ∙ ap block_count c.image.ensures.same ∙ count_same c.args.volume.now.image t s in
    let within : get_or blocks place 0 < length owners = omega (arith, c.requires.inside place 0 c.loop-place-test.true, (c.requires.owners t s).count, count_same c.args.volume.now.image t s) in
    let more = owned_more json unread t owners blocks old mid c.loop-place.text.items c.push_told.new.text.items place c.blocks-count.result (get_or blocks place 0) (seen c.in_ok-told.told) (c.loop-place.invariant t s) count
    c.loop-place-test.true refl within (c.in_ok-told.ensures t s) c.in_ok-push_told.ensures in
    passes_front old mid (owned_to json unread t owners blocks (place + 1)) c.push_told.new.text.items more _ (where_of json t.blocks (told_list t unread owners blocks)) (owned_front json unread t owners blocks (place + 1))
    c.in_err-write_when_long.ensures.front))

pub loop-place-preserved : goal.loop-place-preserved
loop-place-preserved g c = λ t s.
    let blocks = c.args.blocks.now in
    let owners = c.args.owners.now in
    let json = c.args.asking.json in
    let unread = c.args.asking.unread.now in
    let place = c.loop-place.place in
    let old = g.W.Write.contents c.args.writer.now in
    let mid = g.W.Write.contents c.loop-place.writer in
    let count = c.blocks-count.ensures.count ∙ ap block_count c.image.ensures.same ∙ count_same c.args.volume.now.image t s in
    let within : get_or blocks place 0 < length owners = omega (arith, c.requires.inside place 0 c.loop-place-test.true, (c.requires.owners t s).count, count_same c.args.volume.now.image t s) in
    let more = owned_more json unread t owners blocks old mid c.loop-place.text.items c.push_told.new.text.items place c.blocks-count.result (get_or blocks place 0) (seen c.in_ok-told.told) (c.loop-place.invariant t s) count
    c.loop-place-test.true refl within (c.in_ok-told.ensures t s) c.in_ok-push_told.ensures in
    passes_on old mid (owned_to json unread t owners blocks (place + 1)) c.push_told.new.text.items more _ _ c.in_ok-write_when_long.ensures.ok

pub returns-in_err-extend_from_slice-clause-front : goal.returns-in_err-extend_from_slice-clause-front
returns-in_err-extend_from_slice-clause-front g c =
    let blocks = c.args.blocks.now in
    let owners = c.args.owners.now in
    let json = c.args.asking.json in
    let unread = c.args.asking.unread.now in
    let place = c.loop-place.place in
    at_any_err _ (owned_fronts c.args.volume.now.image owners c.requires.owners blocks c.requires.inside json unread _ _
    (λ t s. passes_here _ _ (owned_to json unread t owners blocks place) c.loop-place.text.items (c.loop-place.invariant t s) (where_of json t.blocks (told_list t unread owners blocks)) (owned_front json unread t owners blocks place)))

pub returns-clause-ok : goal.returns-clause-ok
returns-clause-ok g c =
    let blocks = c.args.blocks.now in
    let owners = c.args.owners.now in
    let json = c.args.asking.json in
    let unread = c.args.asking.unread.now in
    let image = c.args.volume.now.image in
    let old = g.W.Write.contents c.args.writer.now in
    let mid = g.W.Write.contents c.loop-place.writer in
    let new = g.W.Write.contents c.write_text.new.writer in
    let text = c.as_slice.result.now in
    let pushed = c.as_slice.ensures.value ∙ c.in_ok-extend_from_slice.ensures.items ∙ ap (λ (l : List ℕ). c.loop-place.text.items ++ l) c.closing.ensures in
    let done : Appends mid new text → (t : Tree) → Stands image t → Writes old new (IsTextOf json unread t owners blocks) =
    λ appended. owned_written image owners c.requires.owners blocks c.requires.inside json unread old new
    (λ t s. passes_all old mid (where_of json t.blocks (told_list t unread owners blocks)) text
    (owned_end json unread t owners blocks old mid c.loop-place.text.items text c.loop-place.place (c.loop-place.invariant t s) c.loop-place-test.false pushed) new appended) in
    on_ok_weaker c.write_text.result done c.write_text.ensures.ok

pub returns-clause-front : goal.returns-clause-front
returns-clause-front g c =
    let blocks = c.args.blocks.now in
    let owners = c.args.owners.now in
    let json = c.args.asking.json in
    let unread = c.args.asking.unread.now in
    let image = c.args.volume.now.image in
    let old = g.W.Write.contents c.args.writer.now in
    let mid = g.W.Write.contents c.loop-place.writer in
    let new = g.W.Write.contents c.write_text.new.writer in
    let text = c.as_slice.result.now in
    let pushed = c.as_slice.ensures.value ∙ c.in_ok-extend_from_slice.ensures.items ∙ ap (λ (l : List ℕ). c.loop-place.text.items ++ l) c.closing.ensures in
    let front : WritesFront mid new text → (t : Tree) → Stands image t → WritesFrontOf old new (IsTextOf json unread t owners blocks) =
    λ taken. owned_fronts image owners c.requires.owners blocks c.requires.inside json unread old new
    (λ t s.
    let whole = where_of json t.blocks (told_list t unread owners blocks) in
    passes_front old mid whole text (owned_end json unread t owners blocks old mid c.loop-place.text.items text c.loop-place.place (c.loop-place.invariant t s) c.loop-place-test.false pushed) new
    whole (prefix_whole whole whole refl) taken) in
    on_err_weaker c.write_text.result front c.write_text.ensures.front
