use Rattle.std.proofs.Common.{ℕ, List, ◌∷◌, ◌++◌, decimal, sym, ap, ◌∙◌}
use Rattle.ados_salvage.proofs.Ending.{ended_more, ended_none}
use Rattle.ados_salvage.proofs.salvaged.Salvaged.own_name.Goals as goal

pub loop-ending-init : goal.loop-ending-init
loop-ending-init c = c.in_ok-text.ensures.items ∙ c.bytes.ensures.value ∙ sym (ended_none c.args.self.now.name c.args.self.now.header)

pub loop-ending-preserved : goal.loop-ending-preserved
loop-ending-preserved c =
    c.in_ok-push_ending.ensures ∙ ap (λ (l : List ℕ). l ++ 126 ∷ decimal c.args.self.now.header) c.loop-ending.invariant
    ∙ sym (ended_more c.args.self.now.name c.args.self.now.header c.loop-ending._ending)
