use Rattle.std.proofs.Common.{◌∙◌, sym}
use Rattle.bench.proofs.port.round_trips.Goals as goal

pub serve_clients-requires-clause-all : goal.serve_clients-requires-clause-all
serve_clients-requires-clause-all g c = λ lifetimes lives. c.in-Ok.ensures.2

pub serve_clients-requires-clause-jobs : goal.serve_clients-requires-clause-jobs
serve_clients-requires-clause-jobs g c = λ lifetimes lives. c.in-Ok-jobs.ensures ∙ sym c.in-Ok.ensures.4
