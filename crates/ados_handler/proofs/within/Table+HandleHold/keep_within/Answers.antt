use Rattle.std.proofs.Common.{map, ap, ◌∙◌}
use Rattle.std.specs.FinMap as numbered
use Rattle.ados_model.specs.Phrases.{within}
use Rattle.ados_handler.proofs.MovedEach.{fits_moved, numbers_moved, ready_moved}
use Rattle.ados_handler.proofs.within.Table+HandleHold.keep_within.Goals as goal

pub returns-clause-held : goal.returns-clause-held
returns-clause-held c =
    numbers_moved (within c.args.key c.args.size) c.self.inside.slab c.keep_all_within.new.holds c.keep_all_within.ensures
    ∙ ap (λ s. numbered.from_entries (map (λ e. (e.0, within c.args.key c.args.size e.1)) (numbered.entries s.held))) c.self.view_is

pub returns-clause-ready : goal.returns-clause-ready
returns-clause-ready c =
    ready_moved (within c.args.key c.args.size) c.self.inside.slab c.keep_all_within.new.holds c.keep_all_within.ensures ∙ ap (λ s. s.ready) c.self.view_is

pub invariant_of-self : goal.invariant_of-self
invariant_of-self c = fits_moved (within c.args.key c.args.size) c.self.inside.slab c.keep_all_within.new.holds c.keep_all_within.ensures c.self.invariant
