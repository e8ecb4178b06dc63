use Rattle.std.proofs.Common.{rules, subst}
use Rattle.ados_handler.proofs.Common.{HandlerState, IsSoundHandler}
use Rattle.ados_handler.proofs.HandleFiles.{file_of, within_of}
use Rattle.ados_handler.proofs.handler.Handler.hold_of.Goals as goal

pub returns-clause-hold : goal.returns-clause-hold
returns-clause-hold c = search rules

pub returns-clause-file : goal.returns-clause-file
returns-clause-file c =
    let sound = subst (λ (h : HandlerState). IsSoundHandler h.image h.session) c.self.view_is c.self.invariant in
    file_of c.args.self.now.image c.args.self.now.session sound c.args.handle c.copied.result (returns-clause-hold c)

pub returns-clause-within : goal.returns-clause-within
returns-clause-within c =
    let sound = subst (λ (h : HandlerState). IsSoundHandler h.image h.session) c.self.view_is c.self.invariant in
    within_of c.args.self.now.image c.args.self.now.session sound c.args.handle c.copied.result (returns-clause-hold c)
