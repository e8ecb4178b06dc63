use Rattle.ados_faults.proofs.Common.{sym, subst, arith, All, IsEntryIn}
use Rattle.ados_faults.proofs.entries.list_entries.Goals as goal

pub meet_slots-requires-clause-entries : goal.meet_slots-requires-clause-entries
meet_slots-requires-clause-entries c = subst (All (IsEntryIn c.args.image.now c.args.dir)) (sym c.clear.ensures.none) (λ k d l. absurd (omega (arith, l)))
