use Rattle.ados_chain.proofs.Common.{ap, sym, ◌∙◌, arith, ne_eqb, first_left}
use Rattle.ados_chain.proofs.Found.{behind-more, behind-last}
use Rattle.ados_chain.proofs.read.behind_entry.Goals as goal

pub long-next-requires-clause-block : goal.long-next-requires-clause-block
long-next-requires-clause-block c =
    let at = c.requires.entry c.requires.chains.0 c.requires.chains.1 in
    (c.requires.chains.1.entry c.args.slot c.args.key at.0 at.1).inside.1

pub overflow_add-slot : goal.overflow_add-slot
overflow_add-slot c = let at = c.requires.entry c.requires.chains.0 c.requires.chains.1 in omega (arith, at.0)

pub first_from-requires-clause-slot : goal.first_from-requires-clause-slot
first_from-requires-clause-slot c = let at = c.requires.entry c.requires.chains.0 c.requires.chains.1 in omega (arith, at.0)

pub returns-then-next-eq0 : goal.returns-then-next-eq0
returns-then-next-eq0 c =
    λ chains h.
    let at = c.requires.entry chains h in
    rw (ne_eqb c.args.dir c.args.key (λ e. (h.entry c.args.slot c.args.key at.0 at.1).not_dir (sym e)))
    (c.first_from.ensures chains h ∙ sym (ap first_left (behind-last c.args.image.now c.args.dir chains h c.args.slot c.args.key at.0 at.1 (sym c.long-next.ensures ∙ c.if-next-eq0.true))))

pub returns-else-next-eq0 : goal.returns-else-next-eq0
returns-else-next-eq0 c =
    λ chains h.
    let at = c.requires.entry chains h in
    rw (ne_eqb c.args.dir c.args.key (λ e. (h.entry c.args.slot c.args.key at.0 at.1).not_dir (sym e)))
    (sym (behind-more c.args.image.now c.args.dir chains h c.args.slot c.args.key at.0 at.1 c.long-next.result c.long-next.ensures c.if-next-eq0.false))
