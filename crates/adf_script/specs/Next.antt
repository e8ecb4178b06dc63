-- The packet lines of a script, one after the other.
use Rattle.std.specs.Prelude.{◌≡◌, ℕ, ◌+◌, List, Option}
use Rattle.adf_script.specs.declared.packet_lines.NextLine.{NextLine}
use Rattle.adf_script.specs.declared.packet_lines.NextLine.TheVariants.{End, Faulty, Puts}
use Rattle.adf_script.specs.Packets.{NextPuts, NextIsFaulty, NoneIsLeft}

-- the packet lines of a script, and the number of lines that were read
pub record LinesView : Type 0 where
  pub lines : List (ℕ × List ℕ)
  pub count : ℕ

-- the result of the next line after replies with these values, and the new state; packets are numbered from 1
abbrev pub NextGives : LinesView → List (Option ℕ) → NextLine → LinesView → Type 0
NextGives old values End new = NoneIsLeft old.lines old.count
NextGives old values (Faulty number) new = NextIsFaulty old.lines values old.count number
NextGives old values (Puts number packet) new =
    (number ≡ old.count + 1) × NextPuts old.lines values old.count packet × (new ≡ record { lines = old.lines; count = number })
