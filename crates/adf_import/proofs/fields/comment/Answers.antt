use Rattle.std.proofs.Common.{◌≡◌, ◌≢◌, ◌==◌, ℕ, Bool, List, [], length, not, true, false, refl, sym, ap, ◌∙◌, subst, ne_eqb}
use Rattle.std.proofs.Common.{le-leb}
use Rattle.std.proofs.lemmas.Bool.{leb-true}
use Rattle.adf_text.proofs.LettersLemmas.{All-bytes}
use Rattle.ados_change.proofs.Keeping.{same_keeps}
use Rattle.ados_name.specs.Name.{IsComment}
use Rattle.ados_model.specs.Phrases.{is_comment}
use Rattle.ados_model.specs.declared.dos_error.DosError.TheVariants.{CommentTooBig}
use Rattle.ados_volume.proofs.Refusing.{stops}
use Rattle.adf_import.proofs.Common.{false≢true, ObjectWrongType, root, Stands, with_comment, passed}
use Rattle.adf_import.proofs.fields.comment.Goals as goal

pub returns-clause-done : goal.returns-clause-done
returns-clause-done c = (
  λ t s.
      let valid : IsComment c.args.text.now = c.in-Ok.ensures.valid.0 refl in
      let short : is_comment c.args.text.now ≡ true = le-leb (length c.args.text.now) 79 valid.short in
      let other : c.args.key ≢ root t = λ e. c.if-key-root.false (e ∙ sym (c.root.ensures.root t s)) in (
        passed CommentTooBig (not (is_comment c.args.text.now)) _ (ap not short) ∙ passed ObjectWrongType (c.args.key == root t) [] (ne_eqb c.args.key (root t) other),
        subst (λ (text : List ℕ). Stands c.set_comment.new.self.image (with_comment c.args.moment c.args.key text t)) c.in-Ok.ensures.ok (c.set_comment.ensures.stands t s),
      ),
  c.set_comment.ensures.keeps,
)

pub returns-in_default-clause-done : goal.returns-in_default-clause-done
returns-in_default-clause-done c = (
  (refl, λ t s. stops CommentTooBig (not (is_comment c.args.text.now)) _ (ap not (too_long (is_comment c.args.text.now) refl))),
  same_keeps c.args.volume.now.image,
)
  where
    too_long : (b : Bool) → is_comment c.args.text.now ≡ b → is_comment c.args.text.now ≡ false
    too_long true is = absurd (false≢true (c.in_default.ensures.valid.1 (record { short = leb-true (length c.args.text.now) 79 is; bytes = All-bytes c.args.text.now c.type_inv.text })))
    too_long false is = is
