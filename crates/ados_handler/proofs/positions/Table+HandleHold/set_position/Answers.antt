use Rattle.std.proofs.Common.{sym, ap, ◌∙◌, refl}
use Rattle.std.specs.FinMap as numbered
use Rattle.ados_handler.proofs.Common.{option_copied_mut, numbered_from_one}
use Rattle.ados_handler.proofs.Tables.{get_suc, get_zero}
use Rattle.ados_handler.proofs.MovedHandles.{moved_there, moved_nothing}
use Rattle.ados_handler.proofs.positions.Table+HandleHold.set_position.Goals as goal
use Rattle.ados_handler.proofs.positions.Table+HandleHold.set_position.Goals.{in-Some, in_default}

pub returns-then-number-eq0-clause-held : goal.returns-then-number-eq0-clause-held
returns-then-number-eq0-clause-held c =
    let none = ap (numbered.get (numbered_from_one c.self.inside.slab)) c.if-number-eq0.true ∙ get_zero c.self.inside.slab in
    moved_nothing c.self.inside.slab c.args.self.now.held (ap (λ s. s.held) c.self.view_is) c.args.number c.args.position none c.self.inside.slab refl

pub returns-clause-held : goal.returns-clause-held
returns-clause-held c =
    let held = ap (λ s. s.held) c.self.view_is in
    elim c.match-get_mut.branch [
      | in-Some w ↦
          let at = sym c.get_mut.ensures.value ∙ ap option_copied_mut w.in-Some.is in
          moved_there c.self.inside.slab c.args.self.now.held held c.args.number c.args.position c.if-number-eq0.false w.in-Some.hold.now at _ (ap (λ s. s.slab) w.self-inside-is)
      | in_default w ↦
          let none = get_suc c.self.inside.slab c.args.number c.if-number-eq0.false ∙ sym c.get_mut.ensures.value ∙ ap option_copied_mut w.in_default.is in
          moved_nothing c.self.inside.slab c.args.self.now.held held c.args.number c.args.position none _ (ap (λ s. s.slab) w.self-inside-is)
    ]
