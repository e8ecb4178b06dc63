use Rattle.std.proofs.Common.{arith}
use Rattle.ados_port.proofs.Gathers.{total_take, at_place}
use Rattle.ados_port.proofs.gathering.room_for_packets.Goals as goal

pub loop-k-preserved : goal.loop-k-preserved
loop-k-preserved g c =
    let ok = c.args.clients.now.ok in
    let n = c.len-k-end.ensures in
    let t = total_take c.args.clients.now.items c.loop-k.k c.index-client.result.now (at_place c.args.clients.now.items c.loop-k.k c.index-client.result.now (omega (arith, c.loop-k-test.true)) c.index-client.ensures) in
    omega (arith, t, c.loop-k.invariant, c.put_count.ensures, c.in_ok-puts.ensures)
