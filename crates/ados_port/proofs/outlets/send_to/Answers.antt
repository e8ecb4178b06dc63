use Rattle.std.proofs.Common.{arith}
use Rattle.ados_port.proofs.Eachs.{each_send}
use Rattle.ados_port.proofs.outlets.send_to.Goals as goal

pub returns : goal.returns
returns g c =
    let n = c.requires.client in
    let s = c.send.ensures in
    each_send _ c.args.client _ _ _ _ (omega arith) (omega (arith, n.0, n.1)) c.index_mut-outlet.ensures.value s.posted s.sent s.room s.looks
