use Rattle.ados_salvage.proofs.Common.{List, refl, subst, Gathered, Salvaged}
use Rattle.ados_salvage.specs.steps.Gathering.{ArePlacesOf}
use Rattle.ados_salvage.proofs.Growing.{gathers_none}
use Rattle.ados_salvage.proofs.gathered.Gathered.behind.Goals as goal

pub returns-clause-gathered : goal.returns-clause-gathered
returns-clause-gathered c = λ out fillers.
    let g : Gathered = record { entries = c.args.entries; places = c.in_ok-places.places; names = c.in_ok-names.names; giving = c.in_ok-giving.giving } in
    gathers_none out c.args.holes.now fillers c.args.image.now c.args.entries.items g refl c.requires
    (subst (λ (found : List Salvaged). ArePlacesOf c.args.image.now found c.in_ok-places.places.items) c.deref.ensures.value c.in_ok-places.ensures) c.in_ok-giving.ensures.giving c.in_ok-giving.ensures.left c.in_ok-giving.ensures.none
