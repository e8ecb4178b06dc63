use Rattle.std.proofs.Common.{nat_eq, ap, ◌∙◌, rules}
use Rattle.std.specs.Prelude.{◌&&◌}
use Rattle.ados_model.specs.Session.{is_held_exclusively}
use Rattle.ados_handler.proofs.HeldObjects.{by_lock, by_handle}
use Rattle.ados_handler.proofs.handler.Handler.is_held_exclusively.Goals as goal

pub returns-then-any : goal.returns-then-any
returns-then-any c =
    by_lock (λ hold. nat_eq hold.0 c.args.key && hold.1) (record { locks = c.self.inside.locks.held; handles = c.self.inside.handles.held; died = c.self.inside.died }) c.any.result
    (c.any.ensures (λ hold. nat_eq hold.key c.args.key && hold.exclusive) (λ x b answers. search rules)) c.if-any.true
    ∙ ap (λ h. is_held_exclusively h.session c.args.key) c.self.view_is

pub returns-else-any : goal.returns-else-any
returns-else-any c =
    by_handle (λ hold. nat_eq hold.0 c.args.key && hold.1) (record { locks = c.self.inside.locks.held; handles = c.self.inside.handles.held; died = c.self.inside.died }) c.any.result c.any-else-any.result
    (c.any.ensures (λ hold. nat_eq hold.key c.args.key && hold.exclusive) (λ x b answers. search rules)) c.if-any.false
    (c.any-else-any.ensures (λ hold. nat_eq hold.key c.args.key && hold.exclusive) (λ x b answers. search rules))
    ∙ ap (λ h. is_held_exclusively h.session c.args.key) c.self.view_is
