use Rattle.ados_faults.proofs.Common.{ℕ, ◌+◌, ◌*◌, true, set, sym, subst, AreNoted, AreStillNoted, IsNoted, cell_of}
use Rattle.ados_faults.proofs.Cells.{noted_more, noted_here, still_noted}
use Rattle.ados_faults.proofs.notes.Notes.note.Goals as goal

pub returns-clause-noted : goal.returns-clause-noted
returns-clause-noted c =
    subst (λ (r : ℕ). AreNoted c.args.image.now (set c.args.self.now.cells.items (17 * c.args.block + r) true)) (sym c.rank_of.ensures.rank)
    (noted_more c.args.image.now c.args.self.now.cells.items c.args.kind c.args.block c.requires.noted c.requires.inside c.requires.shown)

pub returns-clause-stays : goal.returns-clause-stays
returns-clause-stays c =
    subst (λ (r : ℕ). AreStillNoted c.args.self.now.cells.items (set c.args.self.now.cells.items (17 * c.args.block + r) true)) (sym c.rank_of.ensures.rank)
    (still_noted c.args.image.now c.args.self.now.cells.items c.args.kind c.args.block c.requires.noted c.requires.inside)

pub returns-clause-set : goal.returns-clause-set
returns-clause-set c =
    subst (λ (r : ℕ). IsNoted (set c.args.self.now.cells.items (17 * c.args.block + r) true) (cell_of c.args.kind c.args.block)) (sym c.rank_of.ensures.rank)
    (noted_here c.args.image.now c.args.self.now.cells.items c.args.kind c.args.block c.requires.noted c.requires.inside)
