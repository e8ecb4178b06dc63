use Rattle.adf_text.proofs.Common.{◌++◌, IfOk, MatchOption, ℕ, List, ap, ◌∙◌, subst, IsTextOf, IsTextOfNone}
use Rattle.adf_text.proofs.written.completed_date.Goals as goal

pub returns : goal.returns
returns c =
    let whole = c.deref.ensures.value ∙ c.in_ok-extend_from_slice.ensures.items ∙ ap (λ (l : List ℕ). l ++ c.args.part.now) c.in_ok-whole.ensures.items in
    subst (λ (l : List ℕ). IfOk c.date_of_text.result (λ found. MatchOption found (IsTextOfNone l) (λ date. IsTextOf date l))) whole c.date_of_text.ensures
