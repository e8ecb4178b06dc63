use Rattle.std.proofs.Common.{sym, ◌∙◌}
use Rattle.adf_import.proofs.Denying.{shown_allowed}
use Rattle.adf_import.proofs.prune.delete_all.Goals as goal

pub returns-clause-done : goal.returns-clause-done
returns-clause-done c = (
  λ t s. (
    record {
      not_root = λ e. c.if-key-root.false (e ∙ sym (c.root.ensures.root t s));
      allowed = shown_allowed c.args.volume.now.image c.args.key c.args.force _ c.first_denied.ensures (sym c.is_some.ensures ∙ c.if-is_some.false) t s;
    },
    c.remove_all.ensures.stands t s,
  ),
  c.remove_all.ensures.goes,
)
