use Rattle.adf_export.proofs.Common.{ℕ, ◌++◌, List, [], ◌∷◌, ap, ap₂, ◌∙◌, codes, name_of, shown}
use Rattle.adf_export.proofs.head.volume_line.Goals as goal

pub returns : goal.returns
returns c = λ t s.
    let name = c.bytes.ensures.value ∙ c.name_of-volume_name.ensures t s ∙ ap (name_of t) (c.root.ensures.root t s) in
    let first = c.in_ok-extend_from_slice.ensures.items ∙ ap (λ (l : List ℕ). l ++ codes "Volume ") c.new-text.ensures.items in
    c.in_ok-push.ensures.items ∙ ap (λ (l : List ℕ). l ++ 10 ∷ []) (c.in_ok-push_names.ensures ∙ ap₂ (λ (a b : List ℕ). a ++ shown c.args.letters b) first name)
