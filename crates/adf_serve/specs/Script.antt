-- The program's output for a script.
use Rattle.std.specs.Prelude.{ℕ, Bool, List, Option, codes}
use Rattle.adf_block.specs.declared.layout.Format.TheVariants.{Ffs}
use Rattle.ados_model.specs.Blank.{blank_tree}
use Rattle.ados_name.specs.declared.stamp.Date3.{Date3}
use Rattle.ados_port.specs.History.{opening_port}
use Rattle.ados_model.specs.Session.{opening_session}
use Rattle.ados_run.specs.TreePort.{TreeState, means, tree_died}
use Rattle.adf_script.specs.Streams.{ReadsAndWrites}
use Rattle.adf_io.specs.Prefix.{Writes}
use Rattle.adf_script.specs.Told.{Told}

-- 1 January 1978
abbrev pub first_moment : Date3
first_moment = record { days = 0; minutes = 0; ticks = 0 }

-- a blank double-density FFS floppy with the name `Work`, made at the first time stamp, without locks and handles
abbrev pub work_floppy : TreeState
work_floppy = record { tree = blank_tree Ffs 1760 (codes "Work") first_moment; session = opening_session }

-- the output of a script as client 1 of a port over that floppy; each packet is answered at the first time stamp,
-- according to its meaning; `whole` is false for a script with a fault
abbrev pub ToldOnFloppy : Bool → List ℕ → List ℕ → Type 0
ToldOnFloppy whole read written = Told means tree_died (opening_port work_floppy 1) first_moment read written whole

-- the output of these bytes is written
abbrev pub TellsScript : List ℕ → Option (List ℕ) → Option (List ℕ) → Bool → Type 0
TellsScript script old new whole = Writes old new (λ written. ToldOnFloppy whole script written)

-- a script is read to its end, and its output is written
abbrev pub RunsScript : Option (List ℕ) → Option (List ℕ) → Option (List ℕ) → Option (List ℕ) → Bool → Type 0
RunsScript reader_old reader_new writer_old writer_new whole =
    ReadsAndWrites reader_old reader_new writer_old writer_new (λ read written. ToldOnFloppy whole read written)
