use Rattle.ados_chain.proofs.Common.{ap, sym, ne_eqb, entries_of, first_left}
use Rattle.ados_chain.proofs.Order.{behind-absent, entry-in_chains}
use Rattle.ados_chain.proofs.read.after.Goals as goal

pub returns-in_default : goal.returns-in_default
returns-in_default c =
    λ chains h.
    rw (ne_eqb c.args.dir c.args.key (λ e. c.if-key-dir.false (sym e)))
    (sym (ap first_left (behind-absent (entries_of chains) c.args.key (λ m. c.in_default.ensures chains h (entry-in_chains chains c.args.key m)))))
