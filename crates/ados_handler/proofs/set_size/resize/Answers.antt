use Rattle.std.proofs.Common.{sym, ◌∙◌, subst, arith}
use Rattle.ados_model.specs.Stands.{Stands}
use Rattle.ados_handler.proofs.Resizing.{full_or_grown, needs_no_more, resized_same, resized_shorter}
use Rattle.ados_change.proofs.Keeping.{same_keeps}
use Rattle.ados_handler.proofs.set_size.resize.Goals as goal

pub returns-then-size-held-clause-done : goal.returns-then-size-held-clause-done
returns-then-size-held-clause-done c = λ t stands.
    let same = c.if-size-held.true ∙ c.requires.held t stands in (
      needs_no_more t c.args.key c.args.size (omega (arith, same)),
      subst (Stands c.args.volume.now.image) (sym (resized_same c.args.moment c.args.key c.args.size t same)) stands,
    )

pub returns-then-size-held-clause-keeps : goal.returns-then-size-held-clause-keeps
returns-then-size-held-clause-keeps c = same_keeps c.args.volume.now.image

pub cut-requires-clause-shorter : goal.cut-requires-clause-shorter
cut-requires-clause-shorter c = λ t stands. omega (arith, c.requires.held t stands)

pub returns-then-size-held-2-clause-done : goal.returns-then-size-held-2-clause-done
returns-then-size-held-2-clause-done c = λ t stands.
    let held = c.requires.held t stands in (
      needs_no_more t c.args.key c.args.size (omega (arith, held)),
      subst (Stands c.cut.new.self.image) (sym (resized_shorter c.args.moment c.args.key c.args.size t (omega (arith, held)))) (c.cut.ensures.stands t stands),
    )

pub returns-then-size-held-2-clause-same : goal.returns-then-size-held-2-clause-same
returns-then-size-held-2-clause-same c = λ t stands same. absurd (c.if-size-held.false (same ∙ sym (c.requires.held t stands)))

pub grow-requires-clause-longer : goal.grow-requires-clause-longer
grow-requires-clause-longer c = λ t stands. omega (arith, c.requires.held t stands)

pub returns-clause-done : goal.returns-clause-done
returns-clause-done c =
    full_or_grown c.args.moment c.args.key c.args.size c.args.volume.now.image c.grow.new.self.image _ _
    (λ t stands. omega (arith, c.requires.held t stands)) c.grow.ensures.done

pub returns-clause-same : goal.returns-clause-same
returns-clause-same c = λ t stands same. absurd (c.if-size-held.false (same ∙ sym (c.requires.held t stands)))
