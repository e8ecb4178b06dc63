use Rattle.ados_volume.proofs.Common.{List, RefusesWrite, Shown, Stands, Writes, ap, both_ways, eqb-true, length, subst, sym, ℕ, ◌==◌, ◌∙◌}
use Rattle.ados_change.proofs.Keeping.{same_keeps}
use Rattle.ados_volume.proofs.Known.{written_format, written_lasts}
use Rattle.ados_volume.proofs.Refilled.{refuses, still_shown, written_none, written_same}
use Rattle.ados_volume.proofs.Staying.{files_sound, unchanged_sound}
use Rattle.ados_volume.proofs.volume.Volume.write.Goals as goal

pub returns-then-is_empty-clause-done : goal.returns-then-is_empty-clause-done
returns-then-is_empty-clause-done c =
    written_none c.args.self.now.image c.args.moment c.args.key c.args.pos c.requires.start c.args.bytes.now (eqb-true (length c.args.bytes.now) 0 (sym c.is_empty.ensures ∙ c.if-is_empty.true))

pub returns-then-is_empty-clause-keeps : goal.returns-then-is_empty-clause-keeps
returns-then-is_empty-clause-keeps c = same_keeps c.args.self.now.image

pub returns-clause-none : goal.returns-clause-none
returns-clause-none c = λ none. absurd (both_ways _ (sym c.is_empty.ensures ∙ c.if-is_empty.false) (ap (λ (bytes : List ℕ). length bytes == 0) none))

pub returns-in_err-self-inside-clause-none : goal.returns-in_err-self-inside-clause-none
returns-in_err-self-inside-clause-none c = λ none. absurd (both_ways _ (sym c.is_empty.ensures ∙ c.if-is_empty.false) (ap (λ (bytes : List ℕ). length bytes == 0) none))

pub invariant_of-self-2 : goal.invariant_of-self-2
invariant_of-self-2 c =
    let t = c.self.invariant.tree.0 in
    let s = c.self.invariant.tree.1 in
    let shown = subst (λ (w : Shown). Stands w.image t) c.self.view_is s in
    files_sound c.self.invariant c.write.new.image _ (c.in_ok-self-inside.ensures.done t s).1
    (written_same t c.args.key (c.requires.file t shown) c.args.moment c.args.pos c.args.bytes.now) (written_format t c.args.moment c.args.key c.args.pos c.args.bytes.now)
    c.write.ensures.keeps (written_lasts t c.args.moment c.args.key c.args.pos c.args.bytes.now (c.requires.start t shown)) _ c.at-place.ensures.known _ c.in_ok-self-inside.ensures.below

pub invariant_of-self : goal.invariant_of-self
invariant_of-self c = unchanged_sound c.self.invariant _ c.in_err-self-inside.ensures.done.0 _ c.at-place.ensures.known

pub returns-clause-done : goal.returns-clause-done
returns-clause-done c = λ t s. c.in_ok-self-inside.ensures.done t (subst (λ (w : Shown). Stands w.image t) (sym c.self.view_is) s)

pub returns-in_err-self-inside-clause-done : goal.returns-in_err-self-inside-clause-done
returns-in_err-self-inside-clause-done c =
    refuses (λ _. Writes c.args.moment c.args.key c.args.pos c.args.bytes.now c.args.self.now.image c.write.new.image) (RefusesWrite c.args.key c.args.pos c.args.bytes.now c.args.self.now (record { image = c.write.new.image; was_validated = c.self.inside.was_validated }))
    c.from_residual.result c.in_err-self-inside.field-0.0 c.from_residual.ensures.1 (
      still_shown c.self.inside.image c.write.new.image c.self.inside.was_validated c.args.self.now c.self.view_is c.in_err-self-inside.ensures.done.0,
      λ t s. c.in_err-self-inside.ensures.done.1 t (subst (λ (w : Shown). Stands w.image t) (sym c.self.view_is) s),
    )
