use Rattle.std.proofs.Common.{◌≡◌, ◌++◌, length}
use Rattle.adf_archive.specs.NameLists.{names_in}
use Rattle.adf_archive.proofs.Searching.{texts}
use Rattle.adf_archive.proofs.name_list.listed_names.Given as goal

-- the names so far are those before the rest
abbrev pub invariant-loop-rest : goal.invariant-loop-rest
invariant-loop-rest l = names_in l.null l.list ≡ texts l.names.items ++ names_in l.null l.rest

abbrev pub decreases-loop-rest : goal.decreases-loop-rest
decreases-loop-rest l = length l.rest
