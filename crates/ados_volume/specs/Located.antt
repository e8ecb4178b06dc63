-- How contracts see an entry below a directory.
use Rattle.std.specs.Prelude.{ℕ, List}

-- its key, and its path from there
pub record Located : Type 0 where
  pub key : ℕ
  pub path : List ℕ
