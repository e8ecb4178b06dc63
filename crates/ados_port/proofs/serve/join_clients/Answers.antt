use Rattle.std.proofs.Common.{◌≡◌, length, map, subst, ◌∙◌, arith}
use Rattle.ados_port.specs.Grown.{EachDid}
use Rattle.ados_port.proofs.Joins.{joined_more, none_left}
use Rattle.ados_port.proofs.Parting.{counted_more, gone_over}
use Rattle.ados_port.proofs.serve.join_clients.Goals as goal

pub loop-handle-preserved : goal.loop-handle-preserved
loop-handle-preserved g c =
    let h = c.loop-handle.invariant in
    let first = c.in-Some.ensures.steps.0 in
    let rest = c.loop-handle.handle-iterator.rest.items in
    let behind = c.next.new.self.rest.items in
    let ends = c.push_reserved.new.self.items in
    let reports = c.push_reserved-in-loop-handle.new.self.items in
    let is_ends = c.push_reserved.ensures.items in
    let is_reports = c.push_reserved-in-loop-handle.ensures.items in
    record {
      all = gone_over c.loop-handle.yielded rest behind c.args.handles.items c.in-Some.handle h.all first;
      did = joined_more g.C.Client.does (λ h. h.promise.job.value) (λ h. h.promise.end.value) c.loop-handle.yielded c.in-Some.handle
          c.loop-handle.ends.items ends c.loop-handle.reports.items reports c.join-end.result.0 c.join-end.result.1 h.did c.join-end.ensures is_ends is_reports;
      count_ends = counted_more c.loop-handle.ends.items ends rest behind c.join-end.result.0 c.in-Some.handle _ h.count_ends first is_ends;
      count_reports = counted_more c.loop-handle.reports.items reports rest behind c.join-end.result.1 c.in-Some.handle _ h.count_reports first is_reports;
      room_ends = c.push_reserved.ensures.capacity ∙ h.room_ends;
      room_reports = c.push_reserved-in-loop-handle.ensures.capacity ∙ h.room_reports;
    }

pub returns : goal.returns
returns g c =
    let h = c.loop-handle.invariant in
    let none : length c.loop-handle.handle-iterator.rest.items ≡ 0 = (let n = c.in-None.ensures.steps.0 in let r = c.loop-handle.handle-iterator.rest.ok in omega arith) in
    let all = none_left c.loop-handle.yielded c.loop-handle.handle-iterator.rest.items c.args.handles.items h.all none in
    subst (λ l. EachDid g.C.Client.does (map (λ h. h.promise.job.value) l) (map (λ h. h.promise.end.value) l) c.loop-handle.ends.items c.loop-handle.reports.items) all h.did
