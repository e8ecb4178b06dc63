use Rattle.std.proofs.Common.{ℕ, ◌+◌, ◌-◌, ◌%◌, ◌^◌, ◌≤◌, List, length, arith, refl, subst}
use Rattle.std.specs.Prelude.{All}
use Rattle.std.proofs.lemmas.List.{take_all}
use Rattle.ados_census.specs.Classes.{IsMendedBy, longs_of}
use Rattle.ados_census.proofs.Mending.{passed_at, small_at, sound_at}
use Rattle.ados_census.proofs.class.wrong_long.Goals as goal

pub long-found-requires-clause-place : goal.long-found-requires-clause-place
long-found-requires-clause-place c = small_at c.args.kind c.longs_of-longs.result.now c.loop-place.place-index c.longs_of-longs.ensures c.loop-place-test.true

pub returns-then-has_fields : goal.returns-then-has_fields
returns-then-has_fields c =
    sound_at c.args.image.now c.args.block c.args.kind c.args.sum ((c.long-found.result + (2 ^ 32 - c.args.sum)) % 2 ^ 32) c.requires.wrong c.requires.sum c.longs_of-longs.result.now c.longs_of-longs.ensures
    c.loop-place.place-index c.loop-place-test.true c.long-found.result c.long-found.ensures refl c.loop-place.invariant (c.if-has_fields.ensures.0 refl)

pub loop-place-preserved : goal.loop-place-preserved
loop-place-preserved c =
    passed_at c.args.image.now c.args.block c.args.kind c.args.sum ((c.long-found.result + (2 ^ 32 - c.args.sum)) % 2 ^ 32) c.requires.wrong c.requires.sum c.longs_of-longs.result.now c.longs_of-longs.ensures
    c.loop-place.place-index c.loop-place-test.true c.long-found.result c.long-found.ensures refl c.loop-place.invariant
    (λ fields. let t = c.if-has_fields.ensures.1 fields in cc t)

pub returns : goal.returns
returns c =
    let end = subst (λ (ys : List ℕ). length ys ≤ c.loop-place.place-index) c.longs_of-longs.ensures (omega (arith, c.loop-place-test.false)) in
    subst (All (λ (i : ℕ). ¬ IsMendedBy c.args.image.now c.args.block c.args.kind i)) (take_all c.loop-place.place-index (longs_of c.args.kind) end) c.loop-place.invariant
