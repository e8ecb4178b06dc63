use Rattle.std.proofs.Common.{◌*◌, ◌/◌, ◌≤◌, ℕ, arith}
use native.Mathlib.Nat.{div-add-mod', mul-le-mul_right, mul_comm}
use Rattle.adf_archive.proofs.parallel.images_of.Goals as goal

-- so many parts of a whole are no more than the whole
parts : (few shares count : ℕ) → few ≤ shares → few * (count / shares) ≤ count
parts few shares count fewer = omega (arith, mul-le-mul_right (count / shares) fewer, mul_comm shares (count / shares), div-add-mod' count shares)

pub returns : goal.returns
returns c = parts c.args.few c.args.shares c.args.count c.requires.fewer
