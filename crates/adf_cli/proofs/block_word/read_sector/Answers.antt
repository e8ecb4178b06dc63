use Rattle.std.proofs.Common.{◌∷◌, ◌++◌, decimal, Some, ap, ◌∙◌, arith}
use Rattle.adf_cli.proofs.Naming.{place_of}
use Rattle.adf_cli.specs.declared.block_word.BlockWord.TheVariants.{Sector}
use Rattle.adf_cli.proofs.block_word.read_sector.Goals as goal

pub returns-in_err-cylinder : goal.returns-in_err-cylinder
returns-in_err-cylinder c = λ block longs is.
    let s = place_of block c.args.place.now longs is in
    absurd (c.in_err-cylinder.ensures s.cylinder (decimal s.head ++ 46 ∷ 115 ∷ decimal s.sector) s.small.0 (omega arith) s.text)

pub returns-in_err-head : goal.returns-in_err-head
returns-in_err-head c = λ block longs is.
    let s = place_of block c.args.place.now longs is in
    let first = c.in_ok-cylinder.ensures s.cylinder (decimal s.head ++ 46 ∷ 115 ∷ decimal s.sector) s.small.0 (omega arith) s.text in
    absurd (c.in_err-head.ensures s.head (decimal s.sector) s.small.1 (omega arith) first.1)

pub returns-in_err-sector : goal.returns-in_err-sector
returns-in_err-sector c = λ block longs is.
    let s = place_of block c.args.place.now longs is in
    let first = c.in_ok-cylinder.ensures s.cylinder (decimal s.head ++ 46 ∷ 115 ∷ decimal s.sector) s.small.0 (omega arith) s.text in
    let second = c.in_ok-head.ensures s.head (decimal s.sector) s.small.1 (omega arith) first.1 in
    absurd (c.in_err-sector.ensures s.sector s.small.2 second.1)

pub returns : goal.returns
returns c = λ block longs is.
    let s = place_of block c.args.place.now longs is in
    let first = c.in_ok-cylinder.ensures s.cylinder (decimal s.head ++ 46 ∷ 115 ∷ decimal s.sector) s.small.0 (omega arith) s.text in
    let second = c.in_ok-head.ensures s.head (decimal s.sector) s.small.1 (omega arith) first.1 in
    let third = c.in_ok-sector.ensures s.sector s.small.2 second.1 in
    (λ i. Some (Sector (first.0 i) (second.0 i) (third i))) ∙ ap Some s.is
