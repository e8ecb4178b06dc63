use Rattle.ados_salvage.proofs.Common.{headers_of}
use Rattle.ados_salvage.proofs.Placing.{ArePlacesBelow}
use Rattle.ados_salvage.proofs.gathered.places_of.Given as goal

abbrev pub invariant-loop-place : goal.invariant-loop-place
invariant-loop-place l = ArePlacesBelow l.image (headers_of l.entries) l.place l.places.items
