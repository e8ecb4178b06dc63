use Rattle.std.proofs.Common.{Err, Some, true, false, ap}
use Rattle.adf_serve.proofs.Telling.{of_bytes, of_front}
use Rattle.adf_serve.proofs.words.run_script.Goals as goal

pub returns-in-Ok-try_script-clause-whole : goal.returns-in-Ok-try_script-clause-whole
returns-in-Ok-try_script-clause-whole g c = λ ended.
    of_front (g.R.Read.remaining c.args.reader.now) (g.R.Read.remaining c.read_script.new.reader) (g.W.Write.contents c.args.writer.now) (g.W.Write.contents c.try_script.new.writer)
    c.in-Ok.script.items c.deref-lines.result.now true c.deref-lines.ensures.value c.in-Ok.ensures.read
    (of_bytes c.deref-lines.result.now (Some c.try_script.new.reader.now) (g.W.Write.contents c.args.writer.now) (g.W.Write.contents c.try_script.new.writer) true c.in-Ok-try_script.ensures.whole)

pub returns-in-Err-Script-clause-faulty : goal.returns-in-Err-Script-clause-faulty
returns-in-Err-Script-clause-faulty g c = λ ended.
    of_front (g.R.Read.remaining c.args.reader.now) (g.R.Read.remaining c.read_script.new.reader) (g.W.Write.contents c.args.writer.now) (g.W.Write.contents c.try_script.new.writer)
    c.in-Ok.script.items c.deref-lines.result.now false c.deref-lines.ensures.value c.in-Ok.ensures.read
    (of_bytes c.deref-lines.result.now (Some c.try_script.new.reader.now) (g.W.Write.contents c.args.writer.now) (g.W.Write.contents c.try_script.new.writer) false (c.in-Err-Script.ensures.faulty (ap Err c.in-Err-Script.field-0-is)))
