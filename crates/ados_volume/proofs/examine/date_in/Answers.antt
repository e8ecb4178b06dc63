use Rattle.std.proofs.Common.{◌∙◌}
use Rattle.ados_volume.proofs.examine.date_in.Goals as goal

pub returns : goal.returns
returns c = λ t node s e. (λ i. record { days = c.long.ensures i; minutes = c.long-2.ensures i; ticks = c.long-3.ensures i }) ∙ (s.nodes c.args.key node e).date
