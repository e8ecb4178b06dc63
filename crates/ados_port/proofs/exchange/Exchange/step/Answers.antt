use Rattle.ados_port.proofs.Grows.{history_of_step}
use Rattle.ados_port.specs.declared.step.Step.TheVariants.{Put, Serve, Take}
use Rattle.ados_port.proofs.exchange.Exchange.step.Goals as goal

pub returns-in-Put-clause-history : goal.returns-in-Put-clause-history
returns-in-Put-clause-history g c = rw c.in-Put.is (history_of_step g.S.Server.gives g.S.Server.has_died c.args.self.now.port (Put c.in-Put.client c.in-Put.packet) c.put.result c.put.new.self.port c.put.ensures.gives)

pub returns-in-Serve-clause-history : goal.returns-in-Serve-clause-history
returns-in-Serve-clause-history g c = rw c.in-Serve.is (history_of_step g.S.Server.gives g.S.Server.has_died c.args.self.now.port (Serve c.in-Serve.moment) c.serve.result c.serve.new.self.port c.serve.ensures.gives)

pub returns-in-Take-clause-history : goal.returns-in-Take-clause-history
returns-in-Take-clause-history g c = rw c.in-Take.is (history_of_step g.S.Server.gives g.S.Server.has_died c.args.self.now.port (Take c.in-Take.client) c.take.result c.take.new.self.port c.take.ensures.gives)

pub returns-in-Put-clause-full : goal.returns-in-Put-clause-full
returns-in-Put-clause-full g c = rw c.in-Put.is c.put.ensures.full

pub returns-in-Serve-clause-full : goal.returns-in-Serve-clause-full
returns-in-Serve-clause-full g c = rw c.in-Serve.is tt

pub returns-in-Take-clause-full : goal.returns-in-Take-clause-full
returns-in-Take-clause-full g c = rw c.in-Take.is tt
