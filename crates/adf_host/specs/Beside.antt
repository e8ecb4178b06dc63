-- The temporary file beside another one, for its new bytes.
use Rattle.std.specs.Prelude.{◌≡◌, ◌≤◌, ℕ, List, ◌++◌, All, length, codes}
use Rattle.std.specs.Fmt.{decimal}

-- sixteen letters from a to z
pub record AreLetters (text : List ℕ) : Type 0 where
  pub sixteen : length text ≡ 16
  pub small : All (λ c. (97 ≤ c) × (c ≤ 122)) text

-- its name with these letters
abbrev pub beside_name : List ℕ → List ℕ
beside_name letters = codes ".adf_serve-" ++ letters ++ codes ".new"

-- its name in former versions, at the try with this number
abbrev pub former_name : ℕ → List ℕ
former_name number = codes ".adf_serve-" ++ decimal number ++ codes ".new"
