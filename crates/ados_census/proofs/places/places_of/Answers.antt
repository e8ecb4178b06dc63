use Rattle.std.proofs.Common.{ℕ, ◌+◌, ◌*◌, ◌/◌, ◌%◌, List, get_or, sym, ◌∙◌, subst}
use Rattle.adf_block.specs.Image.{long}
use Rattle.adf_block.specs.Whole.{IsImage}
use Rattle.ados_census.specs.steps.Placing.{ArePlacesBelow}
use Rattle.ados_census.proofs.Placing.{all_places, places_at, places_begin, places_on}
use Rattle.ados_census.proofs.places.places_of.Goals as goal

pub loop-number-init : goal.loop-number-init
loop-number-init c =
    let im = subst IsImage (c.image.ensures ∙ c.requires.reached) c.blocks-2.ensures.image in
    places_begin c.args.census.now im c.args.block c.requires.inside c.namings_of-number-items.result.now c.namings_of-number-items.ensures c.new-places.result.items c.new-places.ensures.items

pub push_places-requires-clause-below : goal.push_places-requires-clause-below
push_places-requires-clause-below c =
    let im = subst IsImage (c.image.ensures ∙ c.requires.reached) c.blocks-2.ensures.image in
    let numbers = c.namings_of-number-items.result.now in
    let number = get_or numbers c.loop-number.number-index 0 in
    subst (λ (image : List ℕ). ArePlacesBelow image (long image (number / 128) (number % 128)) (640 * (number / 128) + 5 * (number % 128)) c.loop-number.places.items) (sym c.requires.reached)
    (places_at c.args.census.now im c.args.block c.requires.inside numbers c.namings_of-number-items.ensures c.loop-number.number-index c.loop-number-test.true c.loop-number.places.items c.loop-number.invariant)

pub loop-number-preserved : goal.loop-number-preserved
loop-number-preserved c =
    let im = subst IsImage (c.image.ensures ∙ c.requires.reached) c.blocks-2.ensures.image in
    let numbers = c.namings_of-number-items.result.now in
    let number = get_or numbers c.loop-number.number-index 0 in
    places_on c.args.census.now im c.args.block c.requires.inside numbers c.namings_of-number-items.ensures c.loop-number.number-index c.loop-number-test.true c.push_places.new.places.items
    (subst (λ (image : List ℕ). ArePlacesBelow image (long image (number / 128) (number % 128)) (640 * (number / 128) + 5 * (number % 128 + 1)) c.push_places.new.places.items) c.requires.reached c.in_ok-push_places.ensures)

pub returns : goal.returns
returns c =
    let im = subst IsImage (c.image.ensures ∙ c.requires.reached) c.blocks-2.ensures.image in
    all_places c.args.census.now im c.args.block c.requires.inside c.namings_of-number-items.result.now c.namings_of-number-items.ensures c.loop-number.number-index c.loop-number-test.false c.loop-number.places.items
    c.loop-number.invariant
