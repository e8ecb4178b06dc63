use Rattle.adf_script.proofs.Common.{opening_port, on_ok_weaker}
use Rattle.std.specs.Prelude.{true, false}
use Rattle.adf_script.proofs.Telling.{told_through}
use Rattle.adf_script.proofs.runner.run_script.Goals as goal

pub returns-clause-whole : goal.returns-clause-whole
returns-clause-whole g c =
    on_ok_weaker c.tell-outcome.result
    (told_through g.S.Server.gives g.S.Server.has_died (opening_port c.args.server 1) c.args.moment
    (g.R.Read.remaining c.args.reader.now) (g.R.Read.remaining c.read_script.new.reader) (g.W.Write.contents c.args.writer.now) (g.W.Write.contents c.tell-outcome.new.writer) (g.W.Write.contents c.flush.new.self)
    c.in_ok-script.script.items c.deref.result.now true c.deref.ensures.value c.in_ok-script.ensures.read c.flush.ensures.bytes)
    c.tell-outcome.ensures.whole

pub returns-clause-faulty : goal.returns-clause-faulty
returns-clause-faulty g c = λ is_fault.
    told_through g.S.Server.gives g.S.Server.has_died (opening_port c.args.server 1) c.args.moment
    (g.R.Read.remaining c.args.reader.now) (g.R.Read.remaining c.read_script.new.reader) (g.W.Write.contents c.args.writer.now) (g.W.Write.contents c.tell-outcome.new.writer) (g.W.Write.contents c.flush.new.self)
    c.in_ok-script.script.items c.deref.result.now false c.deref.ensures.value c.in_ok-script.ensures.read c.flush.ensures.bytes (c.tell-outcome.ensures.faulty is_fault)
