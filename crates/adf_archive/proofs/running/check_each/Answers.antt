use Rattle.std.proofs.Common.{length, ℕ, List, [], map, ap, sym, subst, ◌∙◌, append-nil, arith}
use Rattle.adf_archive.proofs.Common.{length-map, Appends, string_bytes, WritesFront, ImageReport, told_from, tallied}
use Rattle.adf_archive.proofs.Chunks.{at_err, so_far_front, so_far_more, so_far_none}
use Rattle.adf_archive.proofs.running.check_each.Goals as goal

pub loop-done-init : goal.loop-done-init
loop-done-init g c =
    (omega arith, so_far_none g.C.Fn c.args.report.now c.args.settings.form (map string_bytes c.args.paths.now) (g.W.Write.contents c.args.writer.now) c.new-tally.result c.new-tally.ensures)

pub loop-done-preserved : goal.loop-done-preserved
loop-done-preserved g c =
    let paths : List (List ℕ) = map string_bytes c.args.paths.now in
    let written : Appends (g.W.Write.contents c.loop-done.writer) (g.W.Write.contents c.tell_reports.new.writer) (told_from c.args.settings.form paths c.loop-done.done c.in_ok-reports.reports.items) =
    subst (λ (rs : List ImageReport). Appends (g.W.Write.contents c.loop-done.writer) (g.W.Write.contents c.tell_reports.new.writer) (told_from c.args.settings.form paths c.loop-done.done rs))
    c.deref.ensures.value c.in_ok-tell_reports.ensures.ok in (
      omega (arith, c.min-count.ensures, c.loop-done-test.true),
      so_far_more g.C.Fn c.args.report.now c.args.settings.form paths (g.W.Write.contents c.args.writer.now) (g.W.Write.contents c.loop-done.writer) (g.W.Write.contents c.tell_reports.new.writer)
          c.loop-done.done c.min-count.result c.loop-done.tally c.loop-done.invariant.1 c.in_ok-reports.reports.items c.in_ok-reports.ensures
          c.add.new.self written (c.add.ensures ∙ ap (tallied c.loop-done.tally) c.deref-in-loop-done-2.ensures.value),
    )

pub returns-in_err-tell_reports-clause-fault : goal.returns-in_err-tell_reports-clause-fault
returns-in_err-tell_reports-clause-fault g c =
    let paths : List (List ℕ) = map string_bytes c.args.paths.now in
    let front : WritesFront (g.W.Write.contents c.loop-done.writer) (g.W.Write.contents c.tell_reports.new.writer) (told_from c.args.settings.form paths c.loop-done.done c.in_ok-reports.reports.items) =
    subst (λ (rs : List ImageReport). WritesFront (g.W.Write.contents c.loop-done.writer) (g.W.Write.contents c.tell_reports.new.writer) (told_from c.args.settings.form paths c.loop-done.done rs))
    c.deref.ensures.value c.in_err-tell_reports.ensures.front in
    at_err c.from_residual-in_err-tell_reports.result
    (so_far_front g.C.Fn c.args.report.now c.args.settings.form paths (g.W.Write.contents c.args.writer.now) (g.W.Write.contents c.loop-done.writer) (g.W.Write.contents c.tell_reports.new.writer)
    c.loop-done.done c.min-count.result c.loop-done.tally c.loop-done.invariant.1 c.in_ok-reports.reports.items c.in_ok-reports.ensures front
    (omega (arith, c.min-count.ensures, c.loop-done-test.true, length-map c.args.paths.now string_bytes)))

pub returns-in_err-reports-clause-fault : goal.returns-in_err-reports-clause-fault
returns-in_err-reports-clause-fault g c =
    let so = c.loop-done.invariant.1 in
    let told : List ℕ = told_from c.args.settings.form (map string_bytes c.args.paths.now) 0 so.reports in
    at_err c.from_residual.result
    (c.loop-done.done, so.reports, omega (arith, c.loop-done.invariant.0, length-map c.args.paths.now string_bytes), so.gives, (told, so.written, ([], sym (append-nil told))))

pub reports_by-requires-clause-accepts : goal.reports_by-requires-clause-accepts
reports_by-requires-clause-accepts g c = λ k p i from l. c.requires i (omega (arith, l, c.min-count.ensures, c.loop-done-test.true))

pub tell_reports-requires : goal.tell_reports-requires
tell_reports-requires g c = omega (arith, ap length c.deref.ensures.value, c.in_ok-reports.ensures.0, c.min-count.ensures, c.loop-done-test.true)
