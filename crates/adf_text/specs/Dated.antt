-- Dates at the start of a text.
use Rattle.std.specs.Prelude.{◌≡◌, ℕ, ◌^◌, ◌<◌, List, [], ◌∷◌, ◌++◌, ⊤}
use Rattle.ados_name.specs.declared.stamp.Date3.{Date3}
use Rattle.ados_name.specs.Date.{IsTextOf}

-- each number of a date is below 2^32
pub record IsStamp (date : Date3) : Type 0 where
  pub days : date.days < 2 ^ 32
  pub minutes : date.minutes < 2 ^ 32
  pub ticks : date.ticks < 2 ^ 32

-- the rest after a word: empty, or starting with a space
abbrev pub StandsApart : List ℕ → Type 0
StandsApart [] = ⊤
StandsApart (c ∷ more) = c ≡ 32

-- the text starts with the text of this date, and `behind` follows it
pub record BeginsWithDate (text : List ℕ) (date : Date3) (behind : List ℕ) : Type 0 where
  pub shown : List ℕ
  pub dated : IsTextOf date shown
  pub stands : text ≡ shown ++ behind
  pub apart : StandsApart behind

-- no date has this text
abbrev pub IsTextOfNone : List ℕ → Type 0
IsTextOfNone text = (date : Date3) → IsStamp date → IsTextOf date text → ⊥

-- the text starts with no date
abbrev pub HasNoDate : List ℕ → Type 0
HasNoDate text = (date : Date3) (behind : List ℕ) → IsStamp date → BeginsWithDate text date behind → ⊥
