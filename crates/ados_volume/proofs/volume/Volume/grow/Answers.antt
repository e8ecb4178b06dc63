use Rattle.ados_volume.proofs.Common.{Grows, RefusesGrowth, Shown, Stands, refl, subst, sym}
use Rattle.ados_volume.proofs.Known.{grown_lasts}
use Rattle.ados_volume.proofs.Refilled.{refuses, rewritten_same, still_shown}
use Rattle.ados_volume.proofs.Staying.{files_sound, unchanged_sound}
use Rattle.ados_volume.proofs.volume.Volume.grow.Goals as goal

pub invariant_of-self-2 : goal.invariant_of-self-2
invariant_of-self-2 c =
    let t = c.self.invariant.tree.0 in
    let s = c.self.invariant.tree.1 in
    let shown = subst (λ (w : Shown). Stands w.image t) c.self.view_is s in
    files_sound c.self.invariant c.grow.new.image _ (c.in_ok-self-inside.ensures.done t s).1
    (rewritten_same t c.args.key (c.requires.file t shown) c.args.moment _) refl
    c.grow.ensures.keeps (grown_lasts t c.args.moment c.args.key c.args.size) _ c.at-place.ensures.known _ c.in_ok-self-inside.ensures.below

pub invariant_of-self : goal.invariant_of-self
invariant_of-self c = unchanged_sound c.self.invariant _ c.in_err-self-inside.ensures.done.0 _ c.at-place.ensures.known

pub returns-clause-done : goal.returns-clause-done
returns-clause-done c = λ t s. c.in_ok-self-inside.ensures.done t (subst (λ (w : Shown). Stands w.image t) (sym c.self.view_is) s)

pub returns-in_err-self-inside-clause-done : goal.returns-in_err-self-inside-clause-done
returns-in_err-self-inside-clause-done c =
    refuses (λ _. Grows c.args.moment c.args.key c.args.size c.args.self.now.image c.grow.new.image) (RefusesGrowth c.args.key c.args.size c.args.self.now (record { image = c.grow.new.image; was_validated = c.self.inside.was_validated }))
    c.from_residual.result c.in_err-self-inside.field-0.0 c.from_residual.ensures.1 (
      still_shown c.self.inside.image c.grow.new.image c.self.inside.was_validated c.args.self.now c.self.view_is c.in_err-self-inside.ensures.done.0,
      λ t s. c.in_err-self-inside.ensures.done.1 t (subst (λ (w : Shown). Stands w.image t) (sym c.self.view_is) s),
    )
