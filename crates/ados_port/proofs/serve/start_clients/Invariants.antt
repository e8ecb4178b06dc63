use Rattle.std.proofs.Common.{◌≡◌, ◌+◌, ◌++◌, length, map, vec_capacity}
use Rattle.ados_port.proofs.serve.start_clients.Given as goal

abbrev pub invariant-loop-end : goal.invariant-loop-end
invariant-loop-end g l = record {
  all : l.yielded ++ l.end-iterator.rest.items ≡ l.fn.ends.items;
  ends : map (λ h. h.promise.end.value) l.handles.items ≡ l.yielded;
  jobs : map (λ h. h.promise.job.value) l.handles.items ++ l.jobs.items ≡ l.fn.jobs.items;
  count : length l.handles.items + length l.end-iterator.rest.items ≡ length l.fn.ends.items;
  room : vec_capacity l.handles ≡ vec_capacity l.fn.handles;
}
