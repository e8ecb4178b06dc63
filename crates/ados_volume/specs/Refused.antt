-- A refused change: nothing changes, and why.
use Rattle.std.specs.Prelude.{◌≡◌, ℕ, List, Result, MatchResult}
use Rattle.ados_map.specs.Pages.{NoneFree}
use Rattle.ados_name.specs.declared.stamp.Date3.{Date3}
use Rattle.ados_change.specs.Renewed.{CannotGrow, CannotWrite, Grows, Writes}
use Rattle.ados_volume.specs.Shown.{Shown}

-- the volume is unchanged, because too few blocks are free to write the bytes into the file
abbrev pub RefusesWrite : ℕ → ℕ → List ℕ → Shown → Shown → Type 0
RefusesWrite key pos bytes old new = (new ≡ old) × CannotWrite key pos bytes old.image

-- the bytes were written into the file, or too few blocks are free and nothing changed
abbrev pub WritesOrRefuses : {A E : Type 0} → Date3 → ℕ → ℕ → List ℕ → Shown → Shown → Result A E → Type 0
WritesOrRefuses moment key pos bytes old new answer =
    MatchResult answer (λ _. Writes moment key pos bytes old.image new.image) (λ _. RefusesWrite key pos bytes old new)

-- the volume is unchanged, because too few blocks are free for a file of this size
abbrev pub RefusesGrowth : ℕ → ℕ → Shown → Shown → Type 0
RefusesGrowth key size old new = (new ≡ old) × CannotGrow key size old.image

-- the file has this size, or too few blocks are free and nothing changed
abbrev pub GrowsOrRefuses : {A E : Type 0} → Date3 → ℕ → ℕ → Shown → Shown → Result A E → Type 0
GrowsOrRefuses moment key size old new answer =
    MatchResult answer (λ _. Grows moment key size old.image new.image) (λ _. RefusesGrowth key size old new)

-- no block is free, and the volume is unchanged
abbrev pub RefusesEntry : Shown → Shown → Type 0
RefusesEntry old new = NoneFree old.image × (new ≡ old)
