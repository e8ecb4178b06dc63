use Rattle.adf_text.proofs.Common.{◌≢◌, ◌++◌, List, ℕ, Option, None, Some, IfNone, Decides-eqb, strip_prefix_is, StandsApart}
use Rattle.adf_text.proofs.leading_date.after_word.Goals as goal

if-none : {A : Type 0} (o : Option A) (P : Type 0) → P → IfNone o P
if-none None P is = is
if-none (Some x) P is = tt

pub returns-in_err-behind-clause-none : goal.returns-in_err-behind-clause-none
returns-in_err-behind-clause-none c =
    let none = strip_prefix_is Decides-eqb c.args.text.now c.args.word.now None c.in_err-behind.ensures.cases in
    if-none c.from_residual.result ((behind : List ℕ) → StandsApart behind → c.args.text.now ≢ c.args.word.now ++ behind) (λ behind apart. none behind)

pub returns-clause-stands : goal.returns-clause-stands
returns-clause-stands c =
    strip_prefix_is Decides-eqb c.args.text.now c.args.word.now (Some c.in_ok-behind.behind) c.in_ok-behind.ensures.cases
