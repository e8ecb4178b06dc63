-- Headers that are left out, as marks.
use Rattle.std.specs.Prelude.{ℕ, Bool, MatchBool, List, Contains}
use Rattle.ados_salvage.specs.Marks.{mark_at}

-- for each block, whether it is one of the headers
abbrev pub AreMarked : List Bool → List ℕ → Type 0
AreMarked marks headers = (block : ℕ) → MatchBool (mark_at marks block) (Contains headers block) (¬ Contains headers block)
