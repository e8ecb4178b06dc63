use Rattle.std.proofs.Common.{rules, ◌≡◌, ◌+◌, ◌<◌, ◌≤◌, List, [], length, sym, ap, subst, arith}
use Rattle.std.proofs.lemmas.Option.{slice_get_within}
use Rattle.adf_import.proofs.SavedLeft.{AreToldBelow, all_left, all_saved, entry_there, more_told, none_told}
use Rattle.adf_import.specs.declared.saved_volume.LeftEntry.{LeftEntry}
use Rattle.adf_import.proofs.saved_left.left_entries.Goals as goal

pub loop-place-init : goal.loop-place-init
loop-place-init c = λ t s.
    let none : c.new-left.result.items ≡ [] = search rules in
    subst (λ (xs : List LeftEntry). AreToldBelow t c.args.salvage.now c.args.plan.now.own xs 0) (sym none) (none_told t c.args.salvage.now c.args.plan.now.own)

pub loop-place-preserved : goal.loop-place-preserved
loop-place-preserved c = λ t s.
    let saved = c.args.salvage.now in
    let inside : c.loop-place.place < length saved.entries = omega (arith, c.loop-place-test.true, ap length c.entries-place-end.ensures) in
    let read = entry_there saved.entries c.loop-place.place inside in
    subst (λ (xs : List LeftEntry). AreToldBelow t saved c.args.plan.now.own xs (c.loop-place.place + 1)) (sym c.in_ok-push_left.ensures)
    (more_told t saved c.args.plan.now.own c.loop-place.left.items c.loop-place.place read.0 read.1 (c.loop-place.invariant t s) c.in_ok-why.why (c.in_ok-why.ensures t read.0 s read.1))

pub returns-clause-saved : goal.returns-clause-saved
returns-clause-saved c = λ t s.
    let saved = c.args.salvage.now in
    let all : length saved.entries ≤ c.loop-place.place = omega (arith, c.loop-place-test.false, ap length c.entries-place-end.ensures) in
    all_saved t saved c.args.plan.now.own c.loop-place.left.items c.loop-place.place all (c.loop-place.invariant t s) (slice_get_within saved.entries)

pub returns-clause-left : goal.returns-clause-left
returns-clause-left c = λ t s. all_left t c.args.salvage.now c.args.plan.now.own c.loop-place.left.items c.loop-place.place (c.loop-place.invariant t s)
