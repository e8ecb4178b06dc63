use Rattle.std.proofs.Common.{◌≡◌, ◌<◌, ◌≤◌, ◌++◌, ℕ, List, length, get_or, sym, ap, subst, ◌∙◌}
use Rattle.std.specs.Prelude.{flat_map}
use Rattle.std.proofs.lemmas.List.{take_all}
use Rattle.ados_salvage.specs.declared.salvaged.Salvaged.{Salvaged}
use Rattle.adf_rescue.specs.Paths.{file_at, files_from}
use Rattle.adf_rescue.specs.Undelete.{file_in}
use Rattle.adf_rescue.proofs.Sourcing.{files_more, no_files}
use Rattle.adf_rescue.proofs.plan.Plan.of.Goals as goal

pub loop-place-init : goal.loop-place-init
loop-place-init c = record { apart = c.new.ensures.apart; files = ap (flat_map file_in) c.new.ensures.sources ∙ sym (no_files 0) }

pub loop-place-preserved : goal.loop-place-preserved
loop-place-preserved c =
    let entries = c.args.salvage.now.entries in
    let place = c.loop-place.place in
    let entry = c.index-entries-place.result in
    let inside : place < length entries = subst (λ (es : List Salvaged). place < length es) c.entries-entries.ensures c.loop-place-test.true in
    let at : get_or entries place entry ≡ entry = ap (λ (es : List Salvaged). get_or es place entry) (sym c.entries-entries.ensures) ∙ sym c.index-entries-place.is in
    record {
      apart = c.in_ok-add.ensures.apart;
      files = c.in_ok-add.ensures.files ∙ ap (λ (l : List ℕ). l ++ file_at place entry.state) (c.in_ok-above.ensures.files ∙ c.loop-place.invariant.files) ∙ sym (files_more entries place entry inside at);
    }

pub returns-clause-files : goal.returns-clause-files
returns-clause-files c =
    let entries = c.args.salvage.now.entries in
    let all : length entries ≤ c.loop-place.place = subst (λ (es : List Salvaged). length es ≤ c.loop-place.place) c.entries-entries.ensures c.loop-place-test.false in
    c.loop-place.invariant.files ∙ ap (files_from 0) (take_all c.loop-place.place entries all)
