use Rattle.std.proofs.Common.{◌≡◌, Ok, Option, Some, option_map, sym, ap, ◌∙◌, subst}
use Rattle.adf_import.proofs.Common.{DosError, Stands, Shown, object_at, place_at, MoveFault}
use Rattle.adf_import.specs.Paths.{both_ends, move_ends, move_fault}
use Rattle.adf_import.proofs.Finding.{at_found}
use Rattle.adf_import.proofs.Turns.{kept_looked}
use Rattle.adf_import.proofs.paths.move_at.Goals as goal

pub returns-in-Ok-move_entry : goal.returns-in-Ok-move_entry
returns-in-Ok-move_entry c = λ t s.
    let same = c.place.ensures.same ∙ c.object_at.ensures.same in
    let after = subst (λ (v : Shown). Stands v.image t) (sym c.object_at.ensures.same) s in
    let key : object_at c.args.old.now t ≡ Ok c.in-Ok.key = sym (c.object_at.ensures.object t s) ∙ c.in-Ok.is in
    let to : place_at c.args.new.now t ≡ Ok c.in-Ok-place.to = sym (c.place.ensures.place t after) ∙ c.in-Ok-place.is in
    at_found _ _ (move_ends c.args.old.now c.args.new.now t) (c.in-Ok.key, c.in-Ok-place.to) (λ i. both_ends (key i) (to i)) (
      λ u r.
          let done = c.in-Ok-move_entry.ensures.done.0 u (subst (λ (v : Shown). Stands v.image u) (sym same) r) in
          (ap (λ (o : Option DosError). option_map move_fault o) done.0, done.1),
      kept_looked c.args.volume.now c.place.new.volume c.move_entry.new.volume same c.in-Ok-move_entry.ensures.done.1,
    )

pub returns-in-Err-move_entry : goal.returns-in-Err-move_entry
returns-in-Err-move_entry c = λ t s.
    let same = c.place.ensures.same ∙ c.object_at.ensures.same in
    let after = subst (λ (v : Shown). Stands v.image t) (sym c.object_at.ensures.same) s in
    let key : object_at c.args.old.now t ≡ Ok c.in-Ok.key = sym (c.object_at.ensures.object t s) ∙ c.in-Ok.is in
    let to : place_at c.args.new.now t ≡ Ok c.in-Ok-place.to = sym (c.place.ensures.place t after) ∙ c.in-Ok-place.is in
    let refused = c.in-Err-move_entry.ensures.done.0 in
    at_found _ _ (move_ends c.args.old.now c.args.new.now t) (c.in-Ok.key, c.in-Ok-place.to) (λ i. both_ends (key i) (to i)) (
      (
        refused.0 ∙ same,
        λ u r. ap (λ (o : Option DosError). option_map move_fault o) (refused.1 u (subst (λ (v : Shown). Stands v.image u) (sym same) r)) ∙ ap (λ (f : MoveFault). Some f) (sym c.move_fault.ensures),
      ),
      kept_looked c.args.volume.now c.place.new.volume c.move_entry.new.volume same c.in-Err-move_entry.ensures.done.1,
    )
