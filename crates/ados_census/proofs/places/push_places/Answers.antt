use Rattle.std.proofs.Common.{◌≡◌, ◌+◌, ◌*◌, Vec, Global, ap, ◌∙◌, sym, subst, arith}
use Rattle.adf_block.specs.Image.{long}
use Rattle.adf_block.specs.Whole.{IsImage}
use Rattle.ados_census.specs.Places.{position}
use Rattle.ados_census.specs.declared.place.Place.{Place}
use Rattle.ados_census.specs.steps.Placing.{ArePlacesBelow}
use Rattle.ados_census.proofs.Placing.{place_added, place_skipped}
use Rattle.ados_census.proofs.places.push_places.Goals as goal
use Rattle.ados_census.proofs.places.push_places.Goals.{then-is_place+in_ok-push, else-is_place}

pub loop-number-preserved : goal.loop-number-preserved
loop-number-preserved c =
    let im = subst IsImage c.image.ensures c.blocks-2.ensures.image in
    let place : Place = record { holder = c.args.holder; long = c.args.i; kind = c.kind_at.result } in
    let n = 640 * c.args.holder + 5 * c.args.i + c.loop-number.number in
    let m = 640 * c.args.holder + 5 * c.args.i + (c.loop-number.number + 1) in
    let here : position place ≡ n = omega (arith, c.kind_at.ensures) in
    let next : m ≡ n + 1 = omega arith in
    elim c.if-is_place.branch [
      | then-is_place+in_ok-push w ↦
          place_added c.args.reached.now im place c.requires.long n m here next c.loop-number.places.items c.loop-number.invariant (rw w.if-is_place.true at c.is_place.ensures)
          c.if-is_place.places.items (ap (λ (v : Vec Place Global). v.items) w.places-is ∙ w.in_ok-push.ensures.items)
      | else-is_place w ↦
          subst (λ (v : Vec Place Global). ArePlacesBelow c.args.reached.now (long c.args.reached.now c.args.holder c.args.i) m v.items) (sym w.places-is)
          (place_skipped c.args.reached.now im place c.requires.long n m here next c.loop-number.places.items c.loop-number.invariant (rw w.if-is_place.false at c.is_place.ensures))
    ]
