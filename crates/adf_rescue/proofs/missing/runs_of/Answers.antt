use Rattle.std.proofs.Common.{◌≡◌, ℕ, List, subst, arith}
use Rattle.std.proofs.lemmas.Result.{IfOk-weaker}
use Rattle.adf_rescue.specs.Missing.{AreRuns, IsLeftOut, block_total}
use Rattle.adf_rescue.proofs.Runs.{runs_of_same}
use Rattle.adf_rescue.proofs.missing.runs_of.Goals as goal

pub returns : goal.returns
returns c =
    let numbers = c.args.numbers.now in
    let ordered = c.in_ok-numbers.numbers.items in
    let total : c.min-count.result ≡ block_total numbers c.args.missing = omega (arith, c.min-count.ensures, c.from.ensures) in
    IfOk-weaker c.gaps.result (λ runs. AreRuns (IsLeftOut c.as_slice.result.now c.min-count.result) runs.items) (λ runs. AreRuns (IsLeftOut numbers (block_total numbers c.args.missing)) runs.items)
    (λ runs are.
    subst (λ (n : ℕ). AreRuns (IsLeftOut numbers n) runs.items) total
    (runs_of_same numbers ordered c.min-count.result runs.items c.in_ok-numbers.ensures.all c.in_ok-numbers.ensures.only
    (subst (λ (l : List ℕ). AreRuns (IsLeftOut l c.min-count.result) runs.items) c.as_slice.ensures.value are)))
    c.gaps.ensures
