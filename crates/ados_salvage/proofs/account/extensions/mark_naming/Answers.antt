use Rattle.std.proofs.Common.{◌+◌, Bool, Vec, Global, sym, subst, refl, arith}
use Rattle.ados_salvage.specs.steps.Accounting.{Adds, IsLooseOfAny}
use Rattle.ados_salvage.proofs.DamagedHeaders.{Below, adds_every, adds_first, adds_here, adds_not_here}
use Rattle.ados_salvage.proofs.account.extensions.mark_naming.Goals as goal
use Rattle.ados_salvage.proofs.account.extensions.mark_naming.Goals.{then-names_one, else-names_one}

pub loop-block-init : goal.loop-block-init
loop-block-init c = adds_first (IsLooseOfAny c.args.image.now c.args.headers.now) 0 c.args.marks.now.items c.args.marks.now.items refl

pub loop-block-preserved : goal.loop-block-preserved
loop-block-preserved c =
    let any = IsLooseOfAny c.args.image.now c.args.headers.now in
    let n = c.loop-block.block in
    elim c.if-names_one.branch [
      | then-names_one w ↦
          subst (λ (marks : Vec Bool Global). Adds (Below any (n + 1)) c.args.marks.now.items marks.items) (sym w.marks-is)
          (adds_here any n c.args.marks.now.items c.loop-block.marks.items c.loop-block.invariant w.mark.new.marks.items (rw w.if-names_one.true at c.names_one.ensures) w.mark.ensures)
      | else-names_one w ↦
          subst (λ (marks : Vec Bool Global). Adds (Below any (n + 1)) c.args.marks.now.items marks.items) (sym w.marks-is)
          (adds_not_here any n c.args.marks.now.items c.loop-block.marks.items c.loop-block.invariant (rw w.if-names_one.false at c.names_one.ensures))
    ]

pub returns : goal.returns
returns c = adds_every (IsLooseOfAny c.args.image.now c.args.headers.now) c.loop-block.block c.args.marks.now.items c.loop-block.marks.items c.loop-block.invariant
    (omega (arith, c.loop-block-test.false, c.loop-block.auto.block-end, c.requires))
