use Rattle.adf_where.proofs.Common.{◌<◌, length, arith, count_same, Boot}
use Rattle.std.proofs.lemmas.Option.{slice_get-get_or}
use Rattle.adf_where.proofs.owned.owner_of.Goals as goal

pub bounds-owners-block : goal.bounds-owners-block
bounds-owners-block c =
    let s = c.image.ensures.stands in
    let a = c.requires.owners s.0 s.1 in
    omega (arith, c.requires.inside, a.count, count_same c.args.volume.now.image s.0 s.1)

pub returns-clause-found : goal.returns-clause-found
returns-clause-found c =
    let s = c.image.ensures.stands in
    let a = c.requires.owners s.0 s.1 in
    let within : c.args.block < length c.args.owners.now = omega (arith, c.requires.inside, a.count, count_same c.args.volume.now.image s.0 s.1) in
    slice_get-get_or c.args.owners.now c.args.block Boot within

pub returns-clause-owns : goal.returns-clause-owns
returns-clause-owns c = λ t s.
    let a = c.requires.owners t s in
    let within : c.args.block < length c.args.owners.now = omega (arith, c.requires.inside, a.count, count_same c.args.volume.now.image t s) in
    a.owned c.args.block _ (slice_get-get_or c.args.owners.now c.args.block Boot within)
