use Rattle.std.proofs.Common.{◌≡◌, ℕ, ◌+◌, List, [], ◌++◌, get_or, map, ap, ap₂, sym, ◌∙◌, subst, arith}
use Rattle.adf_archive.proofs.Common.{get_or-map, take_all, Appends, string_bytes, WritesFront, writes_first, ImageReport, told_from, told_of}
use Rattle.adf_archive.proofs.Listed.{told_more, told_none}
use Rattle.adf_archive.proofs.telling.tell_reports.Goals as goal

pub loop-place-init : goal.loop-place-init
loop-place-init g c = c.new-text.ensures.items ∙ sym (told_none c.args.form (map string_bytes c.args.paths.now) c.args.start)

pub loop-place-preserved : goal.loop-place-preserved
loop-place-preserved g c =
    let paths : List (List ℕ) = map string_bytes c.args.paths.now in
    let at : ℕ = c.args.start + c.loop-place.place in
    let path : c.as_str.result.now ≡ get_or paths at [] =
    c.as_str.ensures.value
    ∙ ap string_bytes c.index-paths-start.is
    ∙ sym (get_or-map string_bytes c.args.paths.now at c.index-paths-start.result [] (omega (arith, c.requires, c.loop-place-test.true))) in
    c.in_ok-push_told.ensures
    ∙ ap₂ (λ (xs ys : List ℕ). xs ++ ys) c.loop-place.invariant
    (ap₂ (λ (name : List ℕ) (report : ImageReport). told_of c.args.form name report) path c.index-reports-place.is)
    ∙ sym (told_more c.args.form paths c.args.start c.args.reports.now c.loop-place.place c.index-reports-place.result c.loop-place-test.true)

pub returns-in-Ok-clause-ok : goal.returns-in-Ok-clause-ok
returns-in-Ok-clause-ok g c =
    subst (λ (text : List ℕ). Appends (g.W.Write.contents c.args.writer.now) (g.W.Write.contents c.write_output.new.writer) text)
    (c.deref.ensures.value ∙ c.loop-place.invariant ∙ ap (told_from c.args.form (map string_bytes c.args.paths.now) c.args.start) (take_all c.loop-place.place c.args.reports.now c.loop-place-test.false))
    c.in-Ok.ensures.ok

pub returns-clause-front : goal.returns-clause-front
returns-clause-front g c =
    subst (λ (text : List ℕ). WritesFront (g.W.Write.contents c.args.writer.now) (g.W.Write.contents c.write_output.new.writer) text)
    (c.deref.ensures.value ∙ c.loop-place.invariant ∙ ap (told_from c.args.form (map string_bytes c.args.paths.now) c.args.start) (take_all c.loop-place.place c.args.reports.now c.loop-place-test.false))
    (writes_first _ _ _ _ c.in-Err.ensures.prefix)
