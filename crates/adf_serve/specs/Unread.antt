-- Blocks that a list names as ones that could not be read.
use Rattle.std.specs.Prelude.{◌≡◌, ℕ, Bool, List, Option, Some, None}
use Rattle.std.specs.Borrow.{Bor}
use Rattle.adf_script.specs.Lines.{lines_of}
use Rattle.adf_cli.specs.BadBlocks.{AreBad, AreMarked}

-- these are the blocks that the lines of a list name in a volume with so many; the list is some bytes, those of its file
abbrev pub AreListed : ℕ → List ℕ → Type 0
AreListed blocks bad = (bytes : List ℕ) × AreBad blocks (lines_of bytes) bad

-- the marks of so many blocks: those from before, and if a job has a list, also the blocks that it names
abbrev pub AreMarksOf : Option (Bor (List ℕ)) → ℕ → List Bool → List Bool → Type 0
AreMarksOf None blocks before marks = marks ≡ before
AreMarksOf (Some list) blocks before marks = (bad : List ℕ) × AreListed blocks bad × AreMarked blocks before bad marks
