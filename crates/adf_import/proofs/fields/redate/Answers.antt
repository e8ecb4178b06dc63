use Rattle.std.proofs.Common.{◌≢◌, ◌==◌, [], sym, ◌∙◌, ne_eqb}
use Rattle.adf_import.proofs.Common.{ObjectWrongType, root, passed}
use Rattle.adf_import.proofs.fields.redate.Goals as goal

pub returns-clause-done : goal.returns-clause-done
returns-clause-done c = (
  λ t s.
      let other : c.args.key ≢ root t = λ e. c.if-key-root.false (e ∙ sym (c.root.ensures.root t s)) in (
        passed ObjectWrongType (c.args.key == root t) [] (ne_eqb c.args.key (root t) other),
        c.set_date.ensures.stands t s,
      ),
  c.set_date.ensures.keeps,
)
