use Rattle.adf_text.proofs.Common.{◌<◌, ◌^◌, sym, ap, subst, ◌∙◌, arith, decimal, result_ok, IsUtf8, IsAscii-decimal, parse-decimal, IsUtf8-from_ascii}
use Rattle.adf_text.proofs.leading_date.number.Goals as goal

pub returns-in-Err : goal.returns-in-Err
returns-in-Err c = λ n few is.
    let wide : n < 2 ^ 64 = omega arith in
    absurd (c.in-Err.ensures.cases.0 (subst IsUtf8 (sym is) (IsUtf8-from_ascii (decimal n) (IsAscii-decimal n wide))))

pub returns-in-Ok : goal.returns-in-Ok
returns-in-Ok c = λ n few is.
    let wide : n < 2 ^ 64 = omega arith in
    c.ok.ensures.value ∙ ap result_ok (parse-decimal 32 n c.in-Ok.text.now c.parse.result few wide (c.in-Ok.ensures.cases.0 ∙ is) c.parse.ensures.value.0)
