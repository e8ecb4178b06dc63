use Rattle.adf_export.proofs.Common.{ℕ, ◌++◌, [], ◌∷◌, List, append_assoc, ap₂, ◌∙◌, on_ok_weaker, PushesDate, PushesSecond, to_second}
use Rattle.adf_export.proofs.long.push_date.Goals as goal

pub returns : goal.returns
returns c =
    let old = c.args.text.now.items in
    let new = c.push_second.new.text.items in
    let told : PushesSecond c.push.new.self.items new c.args.date → PushesDate old new c.args.date =
    λ pushed.
    (pushed.1.0, pushed.1.1, pushed.2 ∙ ap₂ (λ (a b : List ℕ). a ++ b) c.in_ok-push.ensures.items pushed.1.2 ∙ append_assoc old (32 ∷ []) (to_second pushed.1.0)) in
    on_ok_weaker c.push_second.result told c.push_second.ensures
