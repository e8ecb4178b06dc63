-- The entries of a salvage, for C.
use Rattle.std.specs.Prelude.{ℕ, Bool, if◌then◌else◌, length, Option, Some, None}
use Rattle.ados_salvage.specs.declared.salvaged.Salvaged.{Salvaged}
use Rattle.ados_salvage.specs.declared.salvaged.State.{State}
use Rattle.ados_salvage.specs.declared.salvaged.State.TheVariants.{Directory, DoubtfulDirectory, Whole, Doubtful, Broken, Lost}
use Rattle.ados_salvage.specs.Salvaged.{is_cut, missing_in}
use Rattle.adf_c.specs.Dates.{told_date}
use Rattle.adf_c.specs.Answers.{cells_of}
use Rattle.adf_c.specs.declared.values.salvaged.JipSalvaged.{JipSalvaged}

-- the position of a directory; 2^64 - 1 if there is none
abbrev pub told_above : Option ℕ → ℕ
told_above (Some place) = place
told_above None = 18_446_744_073_709_551_615

-- the number of a state
abbrev pub told_state : State → ℕ
told_state Directory = 1
told_state Whole = 2
told_state (Broken missing cut size) = 3
told_state Lost = 4
told_state (Doubtful header size) = 5
told_state DoubtfulDirectory = 6

-- the number of a yes or no
abbrev pub yes_number : Bool → ℕ
yes_number is = if is then 1 else 0

-- an entry with this number of bytes, without its name
abbrev pub told_salvaged : Salvaged → ℕ → JipSalvaged
told_salvaged e size = record {
  directory = told_above e.above;
  size = size;
  state = told_state e.state;
  header = e.header;
  is_found = yes_number e.found;
  missing = missing_in e.state;
  is_cut = yes_number (is_cut e.state);
  protection = e.protection.0;
  date = told_date e.date;
  comment_length = length e.comment;
  comment = cells_of 80 e.comment;
}
