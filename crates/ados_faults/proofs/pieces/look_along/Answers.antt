use Rattle.ados_faults.proofs.Common.{flat_map, ◌≡◌, ◌+◌, ◌-◌, ℕ, List, length, drop, take, sym, ap, subst, arith, ◌∙◌, NEXT_EXTENSION, pointers_of, take_at, AreAllSeen, AreHeld, ArePlacesNoted, IsAlong, IsSummary}
use Rattle.ados_faults.specs.declared.data_summary.DataSummary.{DataSummary}
use Rattle.ados_faults.proofs.Along.{along_list, along_more, enough, here_now, kept_tails, piece_along, summary_few}
use Rattle.ados_faults.proofs.Cells.{noted_on}
use Rattle.ados_faults.proofs.SameLinks.{same_links}
use Rattle.ados_faults.proofs.TailNotes.{all_tails_on}
use Rattle.ados_faults.proofs.pieces.look_along.Goals as goal

pub loop-passed-init : goal.loop-passed-init
loop-passed-init c = record {
  noted = c.requires.noted;
  stays = record { stay = λ cell e. e };
  seen = c.requires.seen;
  tails = c.requires.tails;
  along = along_list c.args.image.now c.args.notes.now.cells.items c.args.file c.args.headers.now.listed.list.items c.args.headers.now (length c.args.headers.now.listed.list.items - 0) c.requires.list (omega arith);
}

pub overflow_sub-position : goal.overflow_sub-position
overflow_sub-position c =
    let here = here_now c.args.image.now c.loop-passed.notes.cells.items c.args.notes.now.cells.items c.args.file c.args.headers.now.listed.list.items c.args.headers.now c.args.table.now.counts.items c.len.result c.loop-passed.passed
    c.index-header.result.now c.index-count.result.now c.from-position.result c.loop-passed.position c.loop-passed.summary c.requires.file c.requires.list c.requires.inside c.requires.table.counts_are (omega (arith, c.blocks-2.ensures.count, c.blocks-2.type_inv))
    (omega (arith, c.len.ensures, c.args.headers.now.listed.list.ok.0)) (omega (arith, c.loop-passed-test.true, c.loop-passed.auto.passed-end, c.len-passed-end.ensures, c.len.ensures)) c.index-header.ensures c.index-count.ensures c.from-position.ensures c.loop-passed.invariant.along in
    enough c.args.image.now c.loop-passed.notes.cells.items c.args.file c.requires.list.headers (length c.args.headers.now.listed.list.items - (c.loop-passed.passed + 1)) c.loop-passed.position c.loop-passed.summary c.index-header.result.now c.index-count.result.now c.from-position.result here

pub look_at_piece-first-requires-clause-piece : goal.look_at_piece-first-requires-clause-piece
look_at_piece-first-requires-clause-piece c = λ ofs.
    let here = here_now c.args.image.now c.loop-passed.notes.cells.items c.args.notes.now.cells.items c.args.file c.args.headers.now.listed.list.items c.args.headers.now c.args.table.now.counts.items c.len.result c.loop-passed.passed
    c.index-header.result.now c.index-count.result.now c.from-position.result c.loop-passed.position c.loop-passed.summary c.requires.file c.requires.list c.requires.inside c.requires.table.counts_are (omega (arith, c.blocks-2.ensures.count, c.blocks-2.type_inv))
    (omega (arith, c.len.ensures, c.args.headers.now.listed.list.ok.0)) (omega (arith, c.loop-passed-test.true, c.loop-passed.auto.passed-end, c.len-passed-end.ensures, c.len.ensures)) c.index-header.ensures c.index-count.ensures c.from-position.ensures c.loop-passed.invariant.along in
    piece_along c.args.image.now c.loop-passed.notes.cells.items c.args.file c.requires.list.headers (length c.args.headers.now.listed.list.items - (c.loop-passed.passed + 1)) c.loop-passed.position c.loop-passed.summary c.index-header.result.now c.index-count.result.now c.from-position.result here ofs

pub overflow_add-summary : goal.overflow_add-summary
overflow_add-summary c =
    let here = here_now c.args.image.now c.loop-passed.notes.cells.items c.args.notes.now.cells.items c.args.file c.args.headers.now.listed.list.items c.args.headers.now c.args.table.now.counts.items c.len.result c.loop-passed.passed
    c.index-header.result.now c.index-count.result.now c.from-position.result c.loop-passed.position c.loop-passed.summary c.requires.file c.requires.list c.requires.inside c.requires.table.counts_are (omega (arith, c.blocks-2.ensures.count, c.blocks-2.type_inv))
    (omega (arith, c.len.ensures, c.args.headers.now.listed.list.ok.0)) (omega (arith, c.loop-passed-test.true, c.loop-passed.auto.passed-end, c.len-passed-end.ensures, c.len.ensures)) c.index-header.ensures c.index-count.ensures c.from-position.ensures c.loop-passed.invariant.along in
    omega (arith, c.from.ensures, here.fits, here.small, summary_few c.args.image.now c.loop-passed.notes.cells.items c.args.file c.requires.list.headers (length c.args.headers.now.listed.list.items - (c.loop-passed.passed + 1)) c.loop-passed.position c.loop-passed.summary c.index-header.result.now c.index-count.result.now c.from-position.result here)

pub loop-passed-preserved : goal.loop-passed-preserved
loop-passed-preserved c =
    let image = c.args.image.now in
    let later = c.look_at_piece-first.new.notes.cells.items in
    let done = c.look_at_piece-first.ensures in
    let v = c.loop-passed.invariant in
    let f = c.requires.list in
    let k = length c.args.headers.now.listed.list.items - (c.loop-passed.passed + 1) in
    let header = c.index-header.result.now in
    let position = c.loop-passed.position - c.from-position.result in
    let summary : DataSummary = record { count = c.loop-passed.summary.count + c.from.result; held = c.held_with.result; first = c.look_at_piece-first.result } in
    let here = here_now c.args.image.now c.loop-passed.notes.cells.items c.args.notes.now.cells.items c.args.file c.args.headers.now.listed.list.items c.args.headers.now c.args.table.now.counts.items c.len.result c.loop-passed.passed
    c.index-header.result.now c.index-count.result.now c.from-position.result c.loop-passed.position c.loop-passed.summary c.requires.file c.requires.list c.requires.inside c.requires.table.counts_are (omega (arith, c.blocks-2.ensures.count, c.blocks-2.type_inv))
    (omega (arith, c.len.ensures, c.args.headers.now.listed.list.ok.0)) (omega (arith, c.loop-passed-test.true, c.loop-passed.auto.passed-end, c.len-passed-end.ensures, c.len.ensures)) c.index-header.ensures c.index-count.ensures c.from-position.ensures c.loop-passed.invariant.along in
    let seen = c.look_at_piece-first.new.seen in
    let along : IsAlong image later f.headers k position summary =
    along_more c.args.image.now c.loop-passed.notes.cells.items c.args.file c.requires.list.headers (length c.args.headers.now.listed.list.items - (c.loop-passed.passed + 1)) c.loop-passed.position c.loop-passed.summary c.index-header.result.now c.index-count.result.now c.from-position.result here
    later c.from.result c.held_with.result c.look_at_piece-first.result c.from.ensures done.stays done.piece done.first
    (λ ofs held. c.held_with.ensures image (flat_map (pointers_of image) (drop (k + 1) f.headers)) here.inside.1 (subst (AreHeld image) (sym c.deref-in-loop-passed.ensures.value) (c.requires.held ofs)) held) in
    record {
      noted = done.noted;
      stays = noted_on v.stays done.stays;
      seen = subst (AreAllSeen image later) (sym (c.keep_tail.ensures.seen ∙ take_at seen (drop (length seen) c.loop-passed.known.seen.items) c.loop-passed.known.seen.len (omega (arith, done.seen.size, v.seen.size, c.loop-passed.known.seen.ok.0)))) done.seen;
      tails = kept_tails image later c.args.file c.args.headers.now.listed.list.items c.args.headers.now f k position summary c.loop-passed.known.tails.items c.keep_tail.new.self.tails.items header here.within here.inside here.header_is
          (all_tails_on image c.loop-passed.notes.cells.items later done.stays c.loop-passed.known.tails.items v.tails) along c.keep_tail.ensures.kept c.keep_tail.ensures.same;
      along = λ headers linked. subst (λ (hs : List ℕ). IsAlong image later hs k position summary) (same_links image NEXT_EXTENSION c.args.file f.headers headers f.linked linked) along;
    }

pub returns-clause-summary : goal.returns-clause-summary
returns-clause-summary c = λ blocks of_file.
    let none : length c.args.headers.now.listed.list.items - c.loop-passed.passed ≡ 0 = omega (arith, c.loop-passed-test.false, c.loop-passed.auto.passed-end, c.len-passed-end.ensures, c.args.headers.now.listed.list.ok.0) in
    let a = c.loop-passed.invariant.along of_file.headers of_file.linked in
    subst (λ (xs : List ℕ). IsSummary c.args.image.now xs c.loop-passed.summary) (sym of_file.pointed)
    (subst (λ (n : ℕ). IsSummary c.args.image.now (flat_map (pointers_of c.args.image.now) (drop n of_file.headers)) c.loop-passed.summary) none a.summed)

pub returns-clause-places : goal.returns-clause-places
returns-clause-places c = λ ofs blocks of_file.
    let none : length c.args.headers.now.listed.list.items - c.loop-passed.passed ≡ 0 = omega (arith, c.loop-passed-test.false, c.loop-passed.auto.passed-end, c.len-passed-end.ensures, c.args.headers.now.listed.list.ok.0) in
    let a = c.loop-passed.invariant.along of_file.headers of_file.linked in
    let zero : c.loop-passed.position ≡ 0 = a.position_is ∙ ap (λ (n : ℕ). length (flat_map (pointers_of c.args.image.now) (take n of_file.headers))) none in
    subst (λ (xs : List ℕ). ArePlacesNoted c.args.image.now c.loop-passed.notes.cells.items xs 0) (sym of_file.pointed)
    (subst (ArePlacesNoted c.args.image.now c.loop-passed.notes.cells.items (flat_map (pointers_of c.args.image.now) of_file.headers)) zero (a.places ofs))
