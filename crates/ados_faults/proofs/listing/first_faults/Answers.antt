use Rattle.ados_faults.proofs.Searching.{firsts, none_exactly, whole_exactly}
use Rattle.ados_faults.proofs.listing.first_faults.Goals as goal

pub returns-clause-none : goal.returns-clause-none
returns-clause-none c =
    none_exactly c.args.image.now c.in_ok-found.found.notes.cells.items c.in_ok-found.ensures.searched
    c.args.most c.in_ok-listed.listed.more c.in_ok-listed.listed.faults.items c.in_ok-listed.ensures.lists c.in_ok-listed.ensures.each c.in_ok-listed.ensures.full

pub returns-clause-whole : goal.returns-clause-whole
returns-clause-whole c =
    whole_exactly c.args.image.now c.in_ok-found.found.notes.cells.items c.in_ok-found.ensures.searched
    c.args.most c.in_ok-listed.listed.more c.in_ok-listed.listed.faults.items c.in_ok-listed.ensures.lists c.in_ok-listed.ensures.each c.in_ok-listed.ensures.full

pub returns-clause-first : goal.returns-clause-first
returns-clause-first c =
    firsts c.args.image.now c.in_ok-found.found.notes.cells.items c.in_ok-found.ensures.searched
    c.args.most c.in_ok-listed.listed.more c.in_ok-listed.listed.faults.items c.in_ok-listed.ensures.lists c.in_ok-listed.ensures.each c.in_ok-listed.ensures.full
