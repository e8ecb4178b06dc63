use Rattle.std.proofs.Common.{◌≡◌, false, ℕ, Bor, List, Option, option_map, length, map, ap, subst, sym, ◌∙◌, arith}
use Rattle.std.proofs.KnownBytes.{Keeps-refl}
use Rattle.adf_archive.specs.NameLists.{AreOwn}
use Rattle.adf_archive.proofs.Common.{length-map, string_bytes, ends_over}
use Rattle.adf_archive.proofs.Whole.{checked_all, left_off_at, none_told_at, only_one, some_bytes, told_all}
use Rattle.adf_archive.proofs.running.check_archive.Goals as goal

abbrev texts : List (Bor (List ℕ)) → List (List ℕ)
texts words = map (λ (word : Bor (List ℕ)). word.now) words

-- the bytes of the list of blocks
abbrev list_of : Option (Bor (List ℕ)) → Option (List ℕ)
list_of list = option_map (λ (b : Bor (List ℕ)). b.now) list

pub returns-then-is_list_of_many : goal.returns-then-is_list_of_many
returns-then-is_list_of_many g c = (some_bytes c.args.asked.bad ∙ c.is_list_of_many.ensures.many c.if-is_list_of_many.true, Keeps-refl (g.W.Write.contents c.args.writer.now))

pub returns : goal.returns
returns g c =
    let asked = c.args.asked in
    let job = asked.job.now in
    let names : List (List ℕ) = texts asked.names.now in
    let paths : List (List ℕ) = map string_bytes c.as_slice-paths.result.now in
    let form = c.form_of-form.ensures in
    let named : length names ≡ length asked.names.now = length-map asked.names.now (λ (word : Bor (List ℕ)). word.now) in
    let own : c.in_ok-found.found.in_directory ≡ false → AreOwn (texts job.files.items) names paths =
    λ e. subst (λ (paths : List (List ℕ)). AreOwn (texts job.files.items) names paths) (ap (map string_bytes) (sym c.as_slice-paths.ensures.value))
    (subst (λ (words : List (Bor (List ℕ))). AreOwn (texts words) names (map string_bytes c.in_ok-found.found.paths.items)) c.deref.ensures.value (c.in_ok-found.ensures e)) in
    let told = c.in_ok-tally.ensures.ok in
    told_all job names (list_of asked.bad) c.form_of-form.result paths form.json c.in_ok-found.found.in_directory own
    (λ e.
    let one = form.alone e in
    only_one job names c.in_ok-found.found.in_directory paths own one.0 one.1 (named ∙ one.2))
    form.several (λ l. form.named (omega (arith, l, named))) (λ is. c.is_list_of_many.ensures.alone c.if-is_list_of_many.false (sym (some_bytes asked.bad) ∙ is)) (g.W.Write.contents c.args.writer.now) (g.W.Write.contents c.check_each.new.writer) told.0
    c.detail_of-detail.result c.detail_of-detail.ensures (checked_all _ _ c.detail_of-detail.result _ told.0 told.1 (λ i r calls. calls.met)) told.1.0 c.in_ok-tally.tally told.3 told.2 c.end.result
    (c.end.ensures ∙ ap (λ (n : ℕ). ends_over n c.in_ok-tally.tally) (omega (arith, told.1.0, length-map c.as_slice-paths.result.now string_bytes)))

pub returns-in_err-found : goal.returns-in_err-found
returns-in_err-found g c = none_told_at c.args.asked.job.now (texts c.args.asked.names.now) (list_of c.args.asked.bad) (g.W.Write.contents c.args.writer.now) c.from_residual.result c.from_residual.ensures.1

pub returns-in_err-tally : goal.returns-in_err-tally
returns-in_err-tally g c =
    let asked = c.args.asked in
    let job = asked.job.now in
    let names : List (List ℕ) = texts asked.names.now in
    let paths : List (List ℕ) = map string_bytes c.as_slice-paths.result.now in
    let form = c.form_of-form.ensures in
    let named : length names ≡ length asked.names.now = length-map asked.names.now (λ (word : Bor (List ℕ)). word.now) in
    let own : c.in_ok-found.found.in_directory ≡ false → AreOwn (texts job.files.items) names paths =
    λ e. subst (λ (paths : List (List ℕ)). AreOwn (texts job.files.items) names paths) (ap (map string_bytes) (sym c.as_slice-paths.ensures.value))
    (subst (λ (words : List (Bor (List ℕ))). AreOwn (texts words) names (map string_bytes c.in_ok-found.found.paths.items)) c.deref.ensures.value (c.in_ok-found.ensures e)) in
    let left = c.in_err-tally.ensures.fault in
    left_off_at job names (list_of asked.bad) c.form_of-form.result paths form.json c.in_ok-found.found.in_directory own
    (λ e.
    let one = form.alone e in
    only_one job names c.in_ok-found.found.in_directory paths own one.0 one.1 (named ∙ one.2))
    form.several (λ l. form.named (omega (arith, l, named))) (λ is. c.is_list_of_many.ensures.alone c.if-is_list_of_many.false (sym (some_bytes asked.bad) ∙ is)) (g.W.Write.contents c.args.writer.now) (g.W.Write.contents c.check_each.new.writer) left.1
    c.detail_of-detail.result c.detail_of-detail.ensures (checked_all _ _ c.detail_of-detail.result _ left.1 left.3 (λ i r calls. calls.met)) (omega (arith, left.2, left.3.0)) c.in_err-tally.field-0.0 c.in_err-tally.ensures.broken left.4
    c.from_residual-in_err-tally.result c.from_residual-in_err-tally.ensures.1
