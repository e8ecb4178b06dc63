use Rattle.std.proofs.Common.{◌≡◌, ◌+◌, ◌++◌, length, map, vec_capacity}
use Rattle.ados_port.specs.Grown.{EachDid}
use Rattle.ados_port.proofs.serve.join_clients.Given as goal

abbrev pub invariant-loop-handle : goal.invariant-loop-handle
invariant-loop-handle g l = record {
  all : l.yielded ++ l.handle-iterator.rest.items ≡ l.fn.handles.items;
  did : EachDid g.C.Client.does (map (λ h. h.promise.job.value) l.yielded) (map (λ h. h.promise.end.value) l.yielded) l.ends.items l.reports.items;
  count_ends : length l.ends.items + length l.handle-iterator.rest.items ≡ length l.fn.handles.items;
  count_reports : length l.reports.items + length l.handle-iterator.rest.items ≡ length l.fn.handles.items;
  room_ends : vec_capacity l.ends ≡ vec_capacity l.fn.ends;
  room_reports : vec_capacity l.reports ≡ vec_capacity l.fn.reports;
}
