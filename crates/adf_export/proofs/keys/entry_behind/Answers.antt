use Rattle.adf_export.proofs.Common.{sym, ◌∙◌}
use Rattle.ados_volume.proofs.Listed.{next_has_key}
use Rattle.ados_volume.proofs.Ordered.{told_place}
use Rattle.adf_export.proofs.keys.entry_behind.Goals as goal

pub returns-in-Entry-clause-key : goal.returns-in-Entry-clause-key
returns-in-Entry-clause-key c = next_has_key c.args.volume.now.image c.args.dir c.args.last c.in-Entry.key (λ t s. sym c.in-Entry.is ∙ c.next_from.ensures t s)

pub returns-in-Entry-clause-place : goal.returns-in-Entry-clause-place
returns-in-Entry-clause-place c = told_place c.args.volume.now.image c.args.dir c.args.last c.in-Entry.key (λ t s. sym c.in-Entry.is ∙ c.next_from.ensures t s)

pub returns-in-Entry-clause-next : goal.returns-in-Entry-clause-next
returns-in-Entry-clause-next c = λ t s. sym (sym c.in-Entry.is ∙ c.next_from.ensures t s)
