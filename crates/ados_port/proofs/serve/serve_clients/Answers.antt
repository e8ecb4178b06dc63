use Rattle.std.proofs.Common.{◌≡◌, map, sym}
use Rattle.ados_port.specs.Batches.{LastFoundNothing}
use Rattle.ados_port.proofs.Growth.{ends_after}
use Rattle.ados_port.proofs.Joins.{did_alike, first_ok, second_ok}
use Rattle.ados_port.proofs.serve.serve_clients.Goals as goal

pub returns-clause-last : goal.returns-clause-last
returns-clause-last g c =
    second_ok (LastFoundNothing 1 c.serve_until_ended-served.new.handler) _ _ _ (sym c.in_ok-and.ensures) c.serve_until_ended-served.ensures.last

pub returns-clause-clients : goal.returns-clause-clients
returns-clause-clients g c =
    let both = sym c.in_ok-and.ensures in
    let handles = c.start_clients-started.new.handles.items in
    let jobs = first_ok (map (λ h. h.promise.job.value) handles ≡ c.args.jobs.items) _ _ _ both c.start_clients-started.ensures.jobs in
    let ends = first_ok (map (λ h. h.promise.end.value) handles ≡ c.args.ends.items) _ _ _ both c.start_clients-started.ensures.ends in
    did_alike g.C.Client.does _ _ _ _ _ _ jobs ends c.join_clients-ends.ensures

pub returns-clause-all : goal.returns-clause-all
returns-clause-all g c =
    let d = returns-clause-clients g c in
    let s = c.serve_until_ended-served.ensures.served in
    ends_after g.S.Server.gives _ _ _ s.0 _ _ c.requires.all s.1 d.0 (λ k o at. let e = d.2 k o at in (e.1, e.4, e.6.0))
