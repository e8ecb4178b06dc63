use Rattle.adf_archive.proofs.Searching.{AddsNames}
use Rattle.adf_archive.proofs.name_list.add_listed.Given as goal

-- the names before this one were looked at
abbrev pub invariant-loop-name : goal.invariant-loop-name
invariant-loop-name g l = AddsNames l.names l.fn.found l.name-index l.found
