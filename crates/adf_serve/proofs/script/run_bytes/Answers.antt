use Rattle.std.proofs.Common.{Some, true, false}
use Rattle.std.proofs.lemmas.Result.{on_ok_weaker}
use Rattle.adf_serve.proofs.Telling.{of_bytes, runs_script}
use Rattle.adf_serve.proofs.script.run_bytes.Goals as goal

pub returns-clause-whole : goal.returns-clause-whole
returns-clause-whole g c =
    on_ok_weaker c.run_script.result
    (λ told. of_bytes c.args.script.now (Some c.run_script.new.reader.now) (g.W.Write.contents c.args.writer.now) (g.W.Write.contents c.run_script.new.writer) true
    (runs_script c.in_ok-handler.handler c.in_ok-handler.ensures.image c.in_ok-handler.ensures.session
    (Some c.args.script.now) (Some c.run_script.new.reader.now) (g.W.Write.contents c.args.writer.now) (g.W.Write.contents c.run_script.new.writer) true told))
    c.run_script.ensures.whole

pub returns-clause-faulty : goal.returns-clause-faulty
returns-clause-faulty g c = λ is_fault.
    of_bytes c.args.script.now (Some c.run_script.new.reader.now) (g.W.Write.contents c.args.writer.now) (g.W.Write.contents c.run_script.new.writer) false
    (runs_script c.in_ok-handler.handler c.in_ok-handler.ensures.image c.in_ok-handler.ensures.session
    (Some c.args.script.now) (Some c.run_script.new.reader.now) (g.W.Write.contents c.args.writer.now) (g.W.Write.contents c.run_script.new.writer) false
    (c.run_script.ensures.faulty is_fault))
