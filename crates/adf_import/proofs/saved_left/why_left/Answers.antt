use Rattle.std.proofs.Common.{rules, ◌≡◌, ◌&&◌, Any, true, not, if◌then◌else◌, inl, inr, refl, sym, ap, ◌∙◌, subst}
use Rattle.ados_salvage.specs.declared.salvaged.Salvaged.{Salvaged}
use Rattle.ados_salvage.specs.declared.salvaged.State.TheVariants as states
use Rattle.adf_import.proofs.Common.{is_file}
use Rattle.adf_import.specs.SavedLeft.{HasReason, IsCutOff, IsVacant, is_directory}
use Rattle.adf_import.specs.SavedVolume.{IsLostState, spot_of}
use Rattle.adf_import.specs.declared.saved_left.LeftOut.TheVariants.{Joined, Taken}
use Rattle.adf_import.specs.declared.spots.Spot.{Spot}
use Rattle.adf_import.specs.steps.Spots.{IsObjectAt, IsOfOther}
use Rattle.adf_import.proofs.SavedLeft.{lost_state, not_lost, read_entry, saved_in, taken_by, taken_reason}
use Rattle.adf_import.proofs.saved_left.why_left.Goals as goal

pub returns-then-eq : goal.returns-then-eq
returns-then-eq c = λ t entry s at.
    let saved = c.args.salvage.now in
    let own = c.args.plan.now.own in
    let is : entry ≡ c.index-entries-place.result = read_entry saved.entries c.entries.result.now c.args.place entry c.index-entries-place.result c.entries.ensures c.index-entries-place.is c.requires.place at in
    let lost : c.index-entries-place.result.state ≡ states.Lost = search rules in
    inl (lost_state entry.state (subst (λ (e : Salvaged). e.state ≡ states.Lost) (sym is) lost))

pub returns-in-Object-default-true : goal.returns-in-Object-default-true
returns-in-Object-default-true c = λ t entry s at.
    let saved = c.args.salvage.now in
    let own = c.args.plan.now.own in
    let is : entry ≡ c.index-entries-place.result = read_entry saved.entries c.entries.result.now c.args.place entry c.index-entries-place.result c.entries.ensures c.index-entries-place.is c.requires.place at in
    let here : c.of-spot.result ≡ spot_of c.args.place entry = c.of-spot.ensures ∙ ap (spot_of c.args.place) (sym is) in
    let key = c.in-Object-default-true.key in
    let seen : IsObjectAt c.args.volume.now.image saved own c.of-spot.result key c.in-Object-default-true.saved = c.in-Object-default-true.ensures c.args.volume.now.image saved own c.requires.looked in
    let whole : IsObjectAt c.args.volume.now.image saved own c.of-spot.result key true = subst (IsObjectAt c.args.volume.now.image saved own c.of-spot.result key) c.in-Object-default-true.saved-test seen in
    inr (saved_in c.args.volume.now.image saved own t s c.args.place key entry at (subst (λ (at : Spot). IsObjectAt c.args.volume.now.image saved own at key true) here whole))

pub returns-in_ok-why-in-Object-default-false : goal.returns-in_ok-why-in-Object-default-false
returns-in_ok-why-in-Object-default-false c = λ t entry s at.
    let saved = c.args.salvage.now in
    let own = c.args.plan.now.own in
    let is : entry ≡ c.index-entries-place.result = read_entry saved.entries c.entries.result.now c.args.place entry c.index-entries-place.result c.entries.ensures c.index-entries-place.is c.requires.place at in
    let here : c.of-spot.result ≡ spot_of c.args.place entry = c.of-spot.ensures ∙ ap (spot_of c.args.place) (sym is) in
    let kept : ¬ (c.index-entries-place.result.state ≡ states.Lost) = search rules in
    let some : ¬ IsLostState entry.state = not_lost entry.state (subst (λ (e : Salvaged). ¬ (e.state ≡ states.Lost)) (sym is) kept) in
    let key = c.in-Object-default-false.key in
    let image = c.args.volume.now.image in
    let seen : IsObjectAt image saved own c.of-spot.result key c.in-Object-default-false.saved = c.in-Object-default-false.ensures image saved own c.requires.looked in
    let told = c.in_ok-why-in-Object-default-false.ensures in
    let both = is_directory entry.state && not (is_file t key) in
    let taken =
    taken_by image saved own t s c.args.place key entry c.args.looked.now c.in-Object-default-false.saved (subst (λ (at : Spot). IsObjectAt image saved own at key c.in-Object-default-false.saved) here seen) c.requires.looked
    (subst (λ (at : Spot). Any (IsOfOther at key) c.args.looked.now) here told.other) both refl in
    let why : c.in_ok-why-in-Object-default-false.why ≡ (if both then Joined else Taken) = told.why t s ∙ ap (λ (e : Salvaged). if is_directory e.state && not (is_file t key) then Joined else Taken) (sym is) in
    (some, subst (HasReason t saved own c.args.place entry) (sym why) (taken_reason t saved own c.args.place entry both taken))

pub returns-in_ok-why-in-Nothing : goal.returns-in_ok-why-in-Nothing
returns-in_ok-why-in-Nothing c = λ t entry s at.
    let saved = c.args.salvage.now in
    let own = c.args.plan.now.own in
    let is : entry ≡ c.index-entries-place.result = read_entry saved.entries c.entries.result.now c.args.place entry c.index-entries-place.result c.entries.ensures c.index-entries-place.is c.requires.place at in
    let here : c.of-spot.result ≡ spot_of c.args.place entry = c.of-spot.ensures ∙ ap (spot_of c.args.place) (sym is) in
    let kept : ¬ (c.index-entries-place.result.state ≡ states.Lost) = search rules in
    let some : ¬ IsLostState entry.state = not_lost entry.state (subst (λ (e : Salvaged). ¬ (e.state ≡ states.Lost)) (sym is) kept) in
    let vacant : IsVacant t saved.entries own c.of-spot.result = c.in-Nothing.ensures c.args.volume.now.image saved own c.requires.looked t s in
    let room = c.in_ok-why-in-Nothing.ensures t entry s at in
    (some, subst (HasReason t saved own c.args.place entry) (sym room.3) (subst (IsVacant t saved.entries own) here vacant, room.2))

pub returns-in-NoDirectory : goal.returns-in-NoDirectory
returns-in-NoDirectory c = λ t entry s at.
    let saved = c.args.salvage.now in
    let own = c.args.plan.now.own in
    let is : entry ≡ c.index-entries-place.result = read_entry saved.entries c.entries.result.now c.args.place entry c.index-entries-place.result c.entries.ensures c.index-entries-place.is c.requires.place at in
    let here : c.of-spot.result ≡ spot_of c.args.place entry = c.of-spot.ensures ∙ ap (spot_of c.args.place) (sym is) in
    let kept : ¬ (c.index-entries-place.result.state ≡ states.Lost) = search rules in
    let some : ¬ IsLostState entry.state = not_lost entry.state (subst (λ (e : Salvaged). ¬ (e.state ≡ states.Lost)) (sym is) kept) in
    let cut : IsCutOff t saved.entries own c.of-spot.result = c.in-NoDirectory.ensures c.args.volume.now.image saved own c.requires.looked t s in
    (some, subst (IsCutOff t saved.entries own) here cut)
