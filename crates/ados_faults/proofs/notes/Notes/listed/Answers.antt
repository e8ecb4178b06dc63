use Rattle.ados_faults.proofs.Common.{◌≡◌, ◌<◌, ◌+◌, false, true, length, get_or, sym, subst, ◌∙◌, arith, get_or_default, AreListed}
use Rattle.ados_faults.proofs.Cells.{all_listed, listed_full, listed_more, none_listed, set_within}
use Rattle.ados_faults.proofs.notes.Notes.listed.Goals as goal

pub loop-cell-init : goal.loop-cell-init
loop-cell-init c = subst (AreListed c.args.image.now c.args.self.now.cells.items c.args.most 0) (sym c.new-faults.ensures.items) (none_listed c.args.image.now c.args.self.now.cells.items c.args.most)

pub returns-then-len-most-clause-full : goal.returns-then-len-most-clause-full
returns-then-len-most-clause-full c = λ _.
    let cells = c.args.self.now.cells.items in
    let within : c.loop-cell.cell < length cells = omega (arith, c.loop-cell-test.true, c.len-cell-end.ensures, c.args.self.now.cells.ok.0) in
    let is_set : get_or cells c.loop-cell.cell false ≡ true = sym (c.index.ensures ∙ get_or_default cells c.loop-cell.cell c.index.result.now false within) ∙ c.if-not-index.false in
    listed_full c.args.image.now cells c.args.most c.loop-cell.cell c.loop-cell.faults.items c.requires.noted c.loop-cell.invariant c.fault_at-fault.result c.fault_at-fault.ensures is_set (omega (arith, c.if-len-most.true, c.len.ensures))

pub loop-cell-preserved : goal.loop-cell-preserved
loop-cell-preserved c =
    let cells = c.args.self.now.cells.items in
    let faults = c.loop-cell.faults.items in
    let within : c.loop-cell.cell < length cells = omega (arith, c.loop-cell-test.true, c.len-cell-end.ensures, c.args.self.now.cells.ok.0) in
    let is_set : get_or cells c.loop-cell.cell false ≡ true = sym (c.index.ensures ∙ get_or_default cells c.loop-cell.cell c.index.result.now false within) ∙ c.if-not-index.false in
    let room : length faults < c.args.most = omega (arith, c.loop-cell.invariant.lists.few, c.if-len-most.false, c.len.ensures, c.loop-cell.faults.ok.0) in
    subst (AreListed c.args.image.now cells c.args.most (c.loop-cell.cell + 1)) (sym c.in_ok-push.ensures.items)
    (listed_more c.args.image.now cells c.args.most c.loop-cell.cell faults c.requires.noted c.loop-cell.invariant c.fault_at-fault.result c.fault_at-fault.ensures is_set room)

pub returns-clause-some : goal.returns-clause-some
returns-clause-some c = λ note room. c.loop-cell.invariant.some note.0
    (omega (arith, set_within c.args.self.now.cells.items note.0 note.1, c.loop-cell-test.false, c.args.self.now.cells.ok.0)) note.1

pub returns-clause-each : goal.returns-clause-each
returns-clause-each c = λ _.
    all_listed c.args.image.now c.args.self.now.cells.items c.args.most c.loop-cell.cell c.loop-cell.faults.items c.loop-cell.invariant
    (omega (arith, c.loop-cell-test.false, c.args.self.now.cells.ok.0))
