-- The beginning of a fault's text.
use Rattle.std.specs.Prelude.{◌≡◌, ◌⊎◌, ℕ, List, ◌++◌, codes, decimal}

-- the text starts with the number of a block and this mark after it
abbrev pub BeginsWithBlock : ℕ → List ℕ → List ℕ → Type 0
BeginsWithBlock block mark text = (rest : List ℕ) × (text ≡ codes "block " ++ (decimal block ++ (mark ++ rest)))

-- the text is about this block
abbrev pub TellsOfBlock : ℕ → List ℕ → Type 0
TellsOfBlock block text = BeginsWithBlock block (codes ": ") text ⊎ BeginsWithBlock block (codes ", ") text
