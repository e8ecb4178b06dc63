use Rattle.std.proofs.Common.{◌≡◌, ℕ, Some, IsSomeAnd, sym, ap, ◌∙◌, refl, subst, arith, Option}
use Rattle.std.specs.Result.{result_ok}
use Rattle.std.proofs.lemmas.Fmt.{parse-decimal}
use Rattle.adf_cli.proofs.block_word.read_number.Goals as goal

pub returns : goal.returns
returns c = λ number small is.
    let read : c.ok.result ≡ Some number = c.ok.ensures.value ∙ ap result_ok (parse-decimal 32 number c.args.text.now c.parse.result small (omega (arith, small)) is c.parse.ensures.value.0) in
    subst (λ (o : Option ℕ). IsSomeAnd o (λ found. found ≡ number)) (sym read) refl
