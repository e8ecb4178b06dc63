use Rattle.std.proofs.Common.{◌≡◌, ◌<◌, inl, inr, ℕ, List, [], ◌∷◌, ◌++◌, length, Vec, Global, Option, Some, slice_get, ap, sym, subst, ◌∙◌, refl, arith}
use Rattle.std.specs.Option.{option_map_or}
use Rattle.std.proofs.lemmas.Bool.{cases_lt}
use Rattle.std.proofs.lemmas.List.{length-append}
use Rattle.std.proofs.lemmas.Option.{slice_get_read}
use Rattle.ados_salvage.specs.declared.giving.Piece.{Piece}
use Rattle.ados_salvage.specs.declared.salvaged.Salvaged.{Salvaged}
use Rattle.ados_salvage.specs.Salvaged.{missing_in}
use Rattle.adf_rescue.specs.declared.missing.Run.{Run}
use Rattle.adf_rescue.specs.Missing.{AreRuns, IsMissing, given_to, missing_at, values_at}
use Rattle.adf_rescue.proofs.Runs.{missing_here}
use Rattle.adf_rescue.proofs.Values.{values_before, values_inside, values_last}
use Rattle.adf_rescue.proofs.missing.missing_runs.Goals as goal

pub loop-place-preserved : goal.loop-place-preserved
loop-place-preserved c =
    let saved = c.args.salvage.now in
    let at = c.loop-place.place in
    let so_far = c.loop-place.runs.items in
    let list = c.in_ok-runs_of.field-0 in
    let entry = c.index-entries-place.result in
    let numbers = c.in_ok-numbers.numbers.items in
    let chosen = c.index.result.now in
    let count : length so_far ≡ at = c.loop-place.invariant.count in
    let within : at < length saved.entries = omega (arith, c.loop-place-test.true, ap length c.entries-entries.ensures) in
    let inside : at < length numbers = omega (arith, c.loop-place-test.true, c.in_ok-numbers.ensures.count) in
    let given : c.as_slice.result.now ≡ given_to saved.given at =
    c.as_slice.ensures.value ∙ ap (λ (l : Vec ℕ Global). l.items) c.index.ensures ∙ sym (values_inside numbers at chosen inside)
    ∙ c.in_ok-numbers.ensures.each at (omega (arith, c.loop-place-test.true)) ∙ ap (λ (pieces : List Piece). given_to pieces at) c.pieces.ensures in
    let read : slice_get saved.entries at ≡ Some entry =
    ap (λ (es : List Salvaged). slice_get es at) (sym c.entries-entries.ensures)
    ∙ slice_get_read c.entries-entries.result.now (length c.entries-entries.result.now) at entry refl c.loop-place-test.true c.index-entries-place.is in
    let missing : c.missing-missing.result ≡ missing_at saved.entries at =
    c.missing-missing.ensures ∙ ap (λ (e : Salvaged). missing_in e.state) (sym c.index-entries-place.is) ∙ ap (λ (e : Option Salvaged). option_map_or (λ (entry : Salvaged). missing_in entry.state) e 0) (sym read) in
    let here : AreRuns (IsMissing saved at) list.items = missing_here saved at c.as_slice.result.now c.missing-missing.result list.items given missing c.in_ok-runs_of.ensures in
    record {
      count = omega (arith, ap length c.in_ok-push.ensures.items, length-append so_far (list ∷ []), count);
      each = λ place l. subst (λ (lists : List (Vec Run Global)). AreRuns (IsMissing saved place) (values_at lists place)) (sym c.in_ok-push.ensures.items) (elim (cases_lt place at) [
        | inl low ↦ subst (AreRuns (IsMissing saved place)) (sym (values_before so_far list place (omega (arith, low, count)))) (c.loop-place.invariant.each place low)
        | inr high ↦
            let same : at ≡ place = omega (arith, l, high) in
            let last : length so_far ≡ place = count ∙ same in
            subst (λ (k : ℕ). AreRuns (IsMissing saved place) (values_at (so_far ++ list ∷ []) k)) last
            (subst (AreRuns (IsMissing saved place)) (sym (values_last so_far list)) (subst (λ (k : ℕ). AreRuns (IsMissing saved k) list.items) same here))
      ]);
    }

pub returns : goal.returns
returns c =
    let count : c.loop-place.place ≡ length c.args.salvage.now.entries = omega (arith, c.loop-place-test.false, c.loop-place.auto.place-end, ap length c.entries-entries.ensures) in
    record {
      count = c.loop-place.invariant.count ∙ count;
      each = λ place l. c.loop-place.invariant.each place (omega (arith, l, count));
    }
