-- Paths of items below a directory of the host.
use Rattle.std.specs.Prelude.{ℕ, ◌==◌, List, length, codes, if◌then◌else◌}

-- the path of the directory for all items; an empty one is the working directory
abbrev pub top_of : List ℕ → List ℕ
top_of directory = if length directory == 0 then codes "." else directory
