use Rattle.adf_text.proofs.Common.{◌≡◌, ℕ, ℤ, pos, ◌<◌, ◌^◌, Some, Result, Ok, Err, w32, FitsSigned, sym, ap, subst, ◌∙◌, arith, OkIff, result_ok, FitsUnsignedBits, unsigned_abs, IsYmd, date_parts, parse_date, signed_arith, DateParts, parse_date-date_text}
use Rattle.std.proofs.lemmas.Int.{to_z-of_z}
use Rattle.jiff_core.specs.declared.error.Error.{Error}
use Rattle.adf_text.proofs.DatedLemmas.{day-number}
use Rattle.adf_text.proofs.leading_date.found_day.Goals as goal

fits : {E : Type 0} (r : Result ℕ E) (z : ℤ) (days : ℕ) → z ≡ pos days → days < 2 ^ 32 → OkIff r (FitsUnsignedBits 32 z) (unsigned_abs z) → result_ok r ≡ Some days
fits (Ok n) z days is few of = ap Some (of.1 ∙ ap unsigned_abs is)
fits (Err e) z days is few of = absurd (of (subst (FitsUnsignedBits 32) (sym is) few))

pub returns-in_default : goal.returns-in_default
returns-in_default c = λ days civil few of is.
    let bad : ◌≡◌ {A = Result DateParts Error} (Err c.in_default.field-0) (Ok (date_parts civil)) = c.in_default.ensures ∙ ap parse_date is ∙ parse_date-date_text civil in
    absurd (cc)

pub returns : goal.returns
returns c = λ days civil few of is.
    let read : ◌≡◌ {A = Result DateParts Error} (Ok (date_parts c.in-Ok.day)) (Ok (date_parts civil)) = c.in-Ok.ensures ∙ ap parse_date is ∙ parse_date-date_text civil in
    let parts : date_parts c.in-Ok.day ≡ date_parts civil = cc in
    let starts = subst (IsYmd (pos 1978) (pos 1) (pos 1)) (sym c.to_plain-first.ensures) c.date.ensures in
    let number = day-number c.to_plain-first.result c.in-Ok.day civil days starts parts of in
    let fit : FitsSigned w32 c.until.result = omega (arith, signed_arith, c.until.ensures.bound.0, c.until.ensures.bound.1) in
    c.ok.ensures.value ∙ fits c.try_from.result _ days (to_z-of_z w32 c.until.result fit ∙ c.until.ensures.value ∙ number) few c.try_from.ensures
