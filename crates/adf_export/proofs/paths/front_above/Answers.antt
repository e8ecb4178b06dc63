use Rattle.adf_export.proofs.Common.{ℕ, [], Option, sym, ap, ◌∙◌, option_map_or, IfOk-weaker, front}
use Rattle.adf_export.proofs.paths.front_above.Goals as goal

pub returns-in-Some : goal.returns-in-Some
returns-in-Some c =
    IfOk-weaker c.front_of.result _ _ (λ text is. λ t s.
    is t s ∙ ap (λ (above : Option ℕ). option_map_or (front t t.blocks) above []) (sym c.in-Some.is ∙ c.parent.ensures.parent t s)) c.front_of.ensures

pub returns-in-None : goal.returns-in-None
returns-in-None c = λ t s.
    c.new.ensures.items ∙ ap (λ (above : Option ℕ). option_map_or (front t t.blocks) above []) (sym c.in-None.is ∙ c.parent.ensures.parent t s)
