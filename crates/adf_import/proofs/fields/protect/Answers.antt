use Rattle.std.proofs.Common.{◌≢◌, ◌==◌, ◌+◌, ◌*◌, ◌/◌, ◌%◌, ℕ, [], sym, ◌∙◌, subst, ne_eqb}
use Rattle.adf_import.proofs.Common.{ObjectWrongType, root, Stands, with_protection, passed}
use Rattle.adf_import.proofs.fields.protect.Goals as goal

pub returns-clause-done : goal.returns-clause-done
returns-clause-done c = (
  λ t s.
      let other : c.args.key ≢ root t = λ e. c.if-key-root.false (e ∙ sym (c.root.ensures.root t s)) in (
        passed ObjectWrongType (c.args.key == root t) [] (ne_eqb c.args.key (root t) other),
        subst (λ (p : ℕ). Stands c.set_protect.new.self.image (with_protection c.args.moment c.args.key (256 * (p / 256) + c.args.bits.0 % 256) t)) (c.protection-old.ensures t s) (c.set_protect.ensures.stands t s),
      ),
  c.set_protect.ensures.keeps,
)
