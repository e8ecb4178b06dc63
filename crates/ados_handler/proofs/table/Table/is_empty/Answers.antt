use Rattle.std.proofs.Common.{ap, ◌∙◌, ℕ, nat_eq, length}
use Rattle.std.specs.FinMap as numbered
use Rattle.ados_handler.proofs.Tables.{values_counted}
use Rattle.ados_handler.proofs.table.Table.is_empty.Goals as goal

pub returns : goal.returns
returns g c =
    c.is_empty.ensures ∙ ap (λ (n : ℕ). nat_eq n 0) (values_counted c.self.inside.slab)
    ∙ ap (λ s. nat_eq (length (numbered.values s.held)) 0) c.self.view_is
