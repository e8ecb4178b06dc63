-- Consecutive reads.
use Rattle.std.proofs.Common.{◌≡◌, ◌≤◌, ◌<◌, ◌+◌, ◌*◌, ℕ, List, ◌++◌, take, length, ◌∙◌, Option, length-take-le, length-append, arith}
use Rattle.std.specs.Io.KnownBytes.{Consumes}
use Rattle.std.proofs.KnownBytes.{Consumes-trans}

-- the bytes that this many reads put after the existing ones, no more than the bound in all
pub record ReadSome (most : ℕ) (old new : Option (List ℕ)) (before bytes : List ℕ) (reads : ℕ) : Type 0 where
  pub rest : List ℕ
  pub consumed : Consumes old new rest
  pub grown : bytes ≡ before ++ rest
  pub within : length bytes ≤ most
  pub many : reads ≤ length rest

-- this many bytes were counted by this many reads
pub record Counts (old new : Option (List ℕ)) (count reads : ℕ) : Type 0 where
  pub rest : List ℕ
  pub consumed : Consumes old new rest
  pub counted : length rest ≡ count
  pub many : reads ≤ count
  pub few : count ≤ 32 * reads

-- the bytes of one more read
pub count_part : (a b c : Option (List ℕ)) (count reads n : ℕ) (chunk : List ℕ) → Counts a b count reads → Consumes b c (take n chunk) → n ≤ length chunk → n ≤ 32 → 0 < n → Counts a c (count + n) (reads + 1)
count_part a b c count reads n chunk counts more within few some = record {
  rest = counts.rest ++ take n chunk;
  consumed = Consumes-trans a b c counts.rest (take n chunk) counts.consumed more;
  counted = length-append counts.rest (take n chunk) ∙ omega (arith, counts.counted, length-take-le n chunk within);
  many = omega (arith, counts.many, some);
  few = omega (arith, counts.few, few);
}
