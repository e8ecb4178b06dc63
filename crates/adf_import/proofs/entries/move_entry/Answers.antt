use Rattle.std.proofs.Common.{◌≡◌, false, None, rules, sym, ◌∙◌, subst}
use Rattle.adf_import.proofs.Common.{IsName, Stands, Shown, none_refuses}
use Rattle.ados_volume.specs.Refusals.{move_refusals}
use Rattle.ados_volume.proofs.Refusing.{can_move}
use Rattle.adf_import.proofs.Turns.{kept_looked, kept_same}
use Rattle.adf_import.proofs.entries.move_entry.Goals as goal

pub rename-requires : goal.rename-requires
rename-requires c = λ t s.
    let before = subst (λ (v : Shown). Stands v.image t) c.move_refusal.ensures.same s in
    let valid : IsName c.args.name = search rules in
    let none : c.move_refusal.result ≡ None = c.in_default.is in
    can_move t s.proper c.args.key (c.requires.key t before) false c.args.dir c.args.name (c.requires.directory t before) valid (none_refuses (move_refusals t c.args.key c.args.dir c.args.name false) (sym (c.move_refusal.ensures.refusal t before) ∙ none))

pub returns-clause-done : goal.returns-clause-done
returns-clause-done c = (
  λ t s.
      let none : c.move_refusal.result ≡ None = c.in_default.is in
      (sym (c.move_refusal.ensures.refusal t s) ∙ none, c.rename.ensures.stands t (subst (λ (v : Shown). Stands v.image t) (sym c.move_refusal.ensures.same) s)),
  kept_looked c.args.volume.now c.move_refusal.new.volume c.rename.new.self c.move_refusal.ensures.same c.rename.ensures.keeps,
)

pub returns-in-Some-clause-done : goal.returns-in-Some-clause-done
returns-in-Some-clause-done c = (
  (c.move_refusal.ensures.same, λ t s. sym (c.move_refusal.ensures.refusal t s) ∙ c.in-Some.is),
  kept_same c.args.volume.now c.move_refusal.new.volume c.move_refusal.ensures.same,
)
