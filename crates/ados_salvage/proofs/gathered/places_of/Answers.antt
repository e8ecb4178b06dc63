use Rattle.ados_salvage.proofs.Common.{arith, length-map, refl, Salvaged, headers_of}
use Rattle.ados_salvage.proofs.Placing.{header_is, places_more}
use Rattle.ados_salvage.proofs.gathered.places_of.Goals as goal

pub index_mut-requires : goal.index_mut-requires
index_mut-requires c =
    let found = c.args.entries.now in
    omega (
      arith,
      header_is found c.loop-place.place c.index-entries-place.result c.loop-place-test.true,
      c.requires.inside c.loop-place.place 0 (omega (arith, c.loop-place-test.true, length-map found (λ (entry : Salvaged). entry.header))),
      c.loop-place.invariant.size,
      c.loop-place.places.ok.0,
    )

pub loop-place-preserved : goal.loop-place-preserved
loop-place-preserved c =
    let found = c.args.entries.now in
    places_more c.args.image.now (headers_of found) c.loop-place.place c.loop-place.places.items _ c.loop-place.invariant c.requires.once c.requires.inside
    (omega (arith, c.loop-place-test.true, length-map found (λ (entry : Salvaged). entry.header))) _ (header_is found c.loop-place.place c.index-entries-place.result c.loop-place-test.true) refl
