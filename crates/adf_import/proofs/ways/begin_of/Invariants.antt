use Rattle.adf_import.proofs.Parts.{NoColon}
use Rattle.adf_import.proofs.ways.begin_of.Given as goal

-- there is no `:` before this byte
abbrev pub invariant-loop-at : goal.invariant-loop-at
invariant-loop-at l = NoColon l.path l.at
