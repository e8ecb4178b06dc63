use Rattle.std.proofs.Common.{arith, ◌<◌, length}
use Rattle.std.proofs.lemmas.Option.{slice_get_within}
use Rattle.ados_port.proofs.Eachs.{each_gets, room_more}
use Rattle.ados_port.proofs.outlets.reserve_all.Goals as goal

pub returns-in_err-reserve-clause-same : goal.returns-in_err-reserve-clause-same
returns-in_err-reserve-clause-same g c =
    let h = c.loop-i.invariant.same in
    let within : c.loop-i.i < length c.loop-i.outlets.items = omega (arith, h.0, c.len-i-end.ensures, c.args.outlets.now.ok, c.loop-i-test.true) in
    each_gets _ _ _ _ _ h within c.index_mut-outlet.ensures.value c.in_err-reserve.ensures.same

pub loop-i-preserved : goal.loop-i-preserved
loop-i-preserved g c =
    let h = c.loop-i.invariant in
    let within : c.loop-i.i < length c.loop-i.outlets.items = omega (arith, h.same.0, c.len-i-end.ensures, c.args.outlets.now.ok, c.loop-i-test.true) in
    record {
      same = each_gets _ _ _ _ _ h.same within c.index_mut-outlet.ensures.value c.in_ok-reserve.ensures.same;
      room = room_more _ _ _ _ within h.room c.in_ok-reserve.ensures.ok;
    }

pub returns-clause-room : goal.returns-clause-room
returns-clause-room g c =
    let h = c.loop-i.invariant in
    λ k o at.
    let within = slice_get_within c.loop-i.outlets.items k o at in
    h.room k o (omega (arith, within, h.same.0, c.len-i-end.ensures, c.args.outlets.now.ok, c.loop-i-test.false)) at
