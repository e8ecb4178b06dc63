-- Directories that are held open.
use Rattle.std.specs.Prelude.{ℕ, List, string_bytes}
use Rattle.adf_host.specs.declared.directory.HeldDirectory.{HeldDirectory}

-- the path that leads to it by its handle
abbrev pub held_path : {F : Type 0} → HeldDirectory F → List ℕ
held_path directory = string_bytes directory.path
