use Rattle.std.proofs.Common.{◌≡◌, ℕ, ◌<◌, ◌^◌, List, ◌++◌, Some, sym, ap, ap₂, subst, ◌∙◌, arith}
use Rattle.std.specs.Fmt.{decimal}
use Rattle.std.specs.Result.{result_ok}
use Rattle.std.specs.Str.{IsUtf8}
use Rattle.std.proofs.lemmas.Bool.Decides.{Decides-eqb}
use Rattle.std.proofs.lemmas.Fmt.{IsAscii-decimal, parse-decimal}
use Rattle.std.proofs.lemmas.List.{append_cancel_left, append_cancel_right}
use Rattle.std.proofs.lemmas.Slice.Eq.{strip_prefix_is, strip_suffix_is}
use Rattle.std.proofs.lemmas.Str.{IsUtf8-from_ascii}
use Rattle.adf_host.proofs.beside.beside_number.Goals as goal

-- a name of this form has these digits between its front and its end
digits_between : (front back name behind digits : List ℕ) (n : ℕ) → name ≡ front ++ (decimal n ++ back) → name ≡ front ++ behind → behind ≡ digits ++ back → digits ≡ decimal n
digits_between front back name behind digits n is stands ends =
    append_cancel_right digits (decimal n) back (sym ends ∙ append_cancel_left front behind (decimal n ++ back) (sym stands ∙ is))

pub returns-in-Err : goal.returns-in-Err
returns-in-Err c = λ n few is.
    let wide : n < 2 ^ 64 = omega arith in
    let stands = strip_prefix_is Decides-eqb c.args.name.now c.as_slice.result.now (Some c.in_ok-behind.behind) c.in_ok-behind.ensures.cases in
    let ends = strip_suffix_is Decides-eqb c.in_ok-behind.behind.now c.as_slice-2.result.now (Some c.in_ok-digits.digits) c.in_ok-digits.ensures.cases in
    let text : c.in_ok-digits.digits.now ≡ decimal n = digits_between c.as_slice.result.now c.as_slice-2.result.now c.args.name.now c.in_ok-behind.behind.now c.in_ok-digits.digits.now n
    (is ∙ ap₂ (λ (front back : List ℕ). front ++ (decimal n ++ back)) (sym c.as_slice.ensures) (sym c.as_slice-2.ensures)) stands ends in
    absurd (c.in-Err.ensures.cases.0 (subst IsUtf8 (sym text) (IsUtf8-from_ascii (decimal n) (IsAscii-decimal n wide))))

pub returns-in-Ok : goal.returns-in-Ok
returns-in-Ok c = λ n few is.
    let wide : n < 2 ^ 64 = omega arith in
    let stands = strip_prefix_is Decides-eqb c.args.name.now c.as_slice.result.now (Some c.in_ok-behind.behind) c.in_ok-behind.ensures.cases in
    let ends = strip_suffix_is Decides-eqb c.in_ok-behind.behind.now c.as_slice-2.result.now (Some c.in_ok-digits.digits) c.in_ok-digits.ensures.cases in
    let text : c.in_ok-digits.digits.now ≡ decimal n = digits_between c.as_slice.result.now c.as_slice-2.result.now c.args.name.now c.in_ok-behind.behind.now c.in_ok-digits.digits.now n
    (is ∙ ap₂ (λ (front back : List ℕ). front ++ (decimal n ++ back)) (sym c.as_slice.ensures) (sym c.as_slice-2.ensures)) stands ends in
    c.ok.ensures.value ∙ ap result_ok (parse-decimal 32 n c.in-Ok.text.now c.parse.result few wide (c.in-Ok.ensures.cases.0 ∙ text) c.parse.ensures.value.0)
