use Rattle.ados_census.proofs.NamedLongs as naming
use Rattle.ados_census.proofs.laws.places_are_namings.Goals as goal

pub returns : goal.returns
returns c = naming.places_are_namings
