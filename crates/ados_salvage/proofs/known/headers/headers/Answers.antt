use Rattle.std.proofs.Common.{◌<◌, length, below_more, arith}
use Rattle.ados_salvage.proofs.Heading.{are_headers, few_found, listed_names, next_within, sought_before, sought_kept, sought_next}
use Rattle.ados_salvage.proofs.known.headers.headers.Goals as goal

pub follow-requires-clause-inside : goal.follow-requires-clause-inside
follow-requires-clause-inside c =
    let there : c.loop-place.place < length c.loop-place.found.blocks.items = omega (arith, c.loop-place-test.true, c.len.ensures, c.loop-place.found.blocks.ok.0) in
    (listed_names c.args.left_out.now c.args.image.now c.loop-place.found c.loop-place.place c.index-block.result.now c.loop-place.invariant.found there c.index-block.ensures).0

pub follow-requires-clause-accepted : goal.follow-requires-clause-accepted
follow-requires-clause-accepted c =
    let there : c.loop-place.place < length c.loop-place.found.blocks.items = omega (arith, c.loop-place-test.true, c.len.ensures, c.loop-place.found.blocks.ok.0) in
    (listed_names c.args.left_out.now c.args.image.now c.loop-place.found c.loop-place.place c.index-block.result.now c.loop-place.invariant.found there c.index-block.ensures).1

pub loop-place-preserved : goal.loop-place-preserved
loop-place-preserved c =
    let out = c.args.left_out.now in
    let image = c.args.image.now in
    let old = c.loop-place.found in
    let new = c.follow.new.self in
    let more = c.in_ok-follow.ensures.more in
    let there : c.loop-place.place < length c.loop-place.found.blocks.items = omega (arith, c.loop-place-test.true, c.len.ensures, c.loop-place.found.blocks.ok.0) in
    record {
      found = more.found;
      sound = λ block sound. more.kept block (c.loop-place.invariant.sound block sound);
      root = λ block root. sought_kept out image old new more block (c.loop-place.invariant.root block root);
      within = next_within out image old new more c.loop-place.place there;
      sought = below_more _ _ (sought_before out image old new c.loop-place.place more c.loop-place.invariant.within c.loop-place.invariant.sought)
          (sought_next out image old new more c.loop-place.place there c.index-block.result.now c.index-block.ensures c.in_ok-follow.ensures.sought);
    }

pub loop-place-smaller : goal.loop-place-smaller
loop-place-smaller c = omega (arith, c.loop-place-test.true, c.len.ensures, c.loop-place.found.blocks.ok.0, few_found c.args.left_out.now c.args.image.now c.loop-place.found c.loop-place.invariant.found)

pub returns : goal.returns
returns c =
    are_headers c.args.left_out.now c.args.image.now c.loop-place.found c.loop-place.invariant.found c.loop-place.invariant.sound c.loop-place.invariant.root c.loop-place.place
    (omega (arith, c.loop-place-test.false, c.len.ensures, c.loop-place.found.blocks.ok.0)) c.loop-place.invariant.sought
