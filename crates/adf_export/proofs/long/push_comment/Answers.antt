use Rattle.adf_export.proofs.Common.{ℕ, ◌++◌, List, [], ◌∷◌, true, sym, ap, ◌∙◌, shown}
use Rattle.adf_export.proofs.Padding.{no_comment, some_comment}
use Rattle.adf_export.proofs.long.push_comment.Goals as goal

pub returns-then-is_empty : goal.returns-then-is_empty
returns-then-is_empty c = no_comment c.args.text.now.items c.args.comment.now (sym c.is_empty.ensures ∙ c.if-is_empty.true)

pub returns : goal.returns
returns c =
    let names = shown true c.args.comment.now in
    c.in_ok-push.ensures.items
    ∙ ap (λ (l : List ℕ). l ++ 34 ∷ []) (c.in_ok-push_names.ensures ∙ ap (λ (l : List ℕ). l ++ names) c.in_ok-extend_from_slice.ensures.items)
    ∙ some_comment c.args.text.now.items c.args.comment.now (sym c.is_empty.ensures ∙ c.if-is_empty.false)
