use Rattle.ados_faults.proofs.Searching.{none_listed_shows_none}
use Rattle.ados_faults.proofs.listing.faults_of_any_disk.Goals as goal

pub returns-clause-none : goal.returns-clause-none
returns-clause-none c = none_listed_shows_none c.args.image.now c.in_ok-found.found.notes.cells.items c.in_ok-found.ensures.searched c.in_ok-faults.faults.items c.in_ok-faults.ensures.each c.in_ok-faults.ensures.lists.shown
