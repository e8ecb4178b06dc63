use Rattle.adf_script.proofs.Quiet.{called, reply_is_there}
use Rattle.adf_script.proofs.call.call.Goals as goal

pub returns : goal.returns
returns g c = λ count quiet.
    called g.S.Server.gives g.S.Server.has_died c.args.exchange.now.port count quiet c.args.packet c.args.moment c.in-Accepted.field-0 c.step.new.self.port c.step-2.new.self.port c.step-3.new.self.port
    c.step-2.result c.in-Taken.reply c.in-Accepted.ensures.gives c.step-2.ensures.gives c.in-Taken.ensures.gives

pub unreachable-requires-in_default-step : goal.unreachable-requires-in_default-step
unreachable-requires-in_default-step g c =
    reply_is_there g.S.Server.gives g.S.Server.has_died c.args.exchange.now.port c.requires.0 c.requires.1 c.args.packet c.args.moment c.in-Accepted.field-0 c.step.new.self.port c.step-2.new.self.port c.step-3.new.self.port
    c.step-2.result c.step-3.result c.in-Accepted.ensures.gives c.step-2.ensures.gives c.step-3.ensures.gives c.in_default-step.not-Taken
