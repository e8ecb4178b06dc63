use Rattle.std.proofs.Common.{arith, ◌∙◌}
use Rattle.ados_port.proofs.Joins.{jobs_started}
use Rattle.ados_port.proofs.Parting.{counted_more, gone_over, made_more, used_more}
use Rattle.ados_port.proofs.serve.start_clients.Goals as goal

pub returns-clause-jobs : goal.returns-clause-jobs
returns-clause-jobs g c =
    let h = c.loop-end.invariant in
    jobs_started (λ x. x.promise.end.value) (λ x. x.promise.job.value) c.loop-end.handles.items c.loop-end.yielded c.loop-end.end-iterator.rest.items c.args.ends.items c.loop-end.jobs.items c.args.jobs.items
    h.all (let n = c.in-None.ensures.steps.0 in let r = c.loop-end.end-iterator.rest.ok in omega arith) h.ends h.jobs c.requires.jobs

pub loop-end-preserved : goal.loop-end-preserved
loop-end-preserved g c =
    let h = c.loop-end.invariant in
    let is = c.in_ok-handle.ensures in
    let handles = c.loop-end.handles.items in
    let longer = c.push_reserved.ensures.items in
    let first = c.in-Some.ensures.steps.0 in
    record {
      all = gone_over c.loop-end.yielded c.loop-end.end-iterator.rest.items c.next.new.self.rest.items c.args.ends.items c.in-Some.end h.all first;
      ends = made_more _ handles c.push_reserved.new.self.items c.loop-end.yielded c.in_ok-handle.handle c.in-Some.end h.ends longer is.0;
      jobs = used_more _ handles c.push_reserved.new.self.items c.loop-end.jobs.items c.pop_front.new.self.items c.args.jobs.items c.in_ok-handle.handle c.in-Some-pop_front.job h.jobs c.in-Some-pop_front.ensures.items longer is.1;
      count = counted_more handles c.push_reserved.new.self.items c.loop-end.end-iterator.rest.items c.next.new.self.rest.items c.in_ok-handle.handle c.in-Some.end _ h.count first longer;
      room = c.push_reserved.ensures.capacity ∙ h.room;
    }
