use Rattle.std.proofs.Common.{subst, sym}
use Rattle.ados_port.specs.Ends.{AreEnds}
use Rattle.cases.proofs.hand.Port.gather.Goals as goal

pub gather-requires-in-Err : goal.gather-requires-in-Err
gather-requires-in-Err g c =
    let back = c.in-Err.ensures.refused in
    subst (λ h. AreEnds h c.in-Err.field-0.clients.items) (sym back.0)
    (subst (λ cs. AreEnds c.args.self.handler cs) (sym back.1) c.args.self.all)
