use Rattle.std.proofs.Common.{List, Bool, ap, sym, ◌∙◌}
use Rattle.ados_salvage.specs.Marks.{mark_at}
use Rattle.ados_salvage.proofs.AllKinds.{accounted_if}
use Rattle.ados_salvage.proofs.account.unaccounted.is_unaccounted.Goals as goal

pub returns-then-marks-block : goal.returns-then-marks-block
returns-then-marks-block c = λ u. u.left (accounted_if c.args.salvage.now c.args.marks.now c.requires.marks c.args.block c.requires.inside.1 c.if-marks-block.true)

pub returns-then-is_hole : goal.returns-then-is_hole
returns-then-is_hole c = λ u. u.there (ap (λ (holes : List Bool). mark_at holes c.args.block) (sym c.holes.ensures) ∙ sym c.is_hole.ensures ∙ c.if-is_hole.true)
