use Rattle.std.proofs.Common.{sym, ◌∙◌}
use Rattle.ados_volume.proofs.Walking.{parent_is, parent_is_key}
use Rattle.ados_volume.proofs.walk.parent_in.Goals as goal

pub returns-else-key-root-clause-parent : goal.returns-else-key-root-clause-parent
returns-else-key-root-clause-parent c = λ t s. parent_is c.args.image.now t s c.args.key c.long.result (c.requires.key t s) (λ e. c.if-key-root.false (e ∙ sym c.root.ensures)) c.long.ensures

pub returns-else-key-root-clause-key : goal.returns-else-key-root-clause-key
returns-else-key-root-clause-key c = λ t s. parent_is_key t s.proper c.args.key c.long.result
    (sym (parent_is c.args.image.now t s c.args.key c.long.result (c.requires.key t s) (λ e. c.if-key-root.false (e ∙ sym c.root.ensures)) c.long.ensures))
