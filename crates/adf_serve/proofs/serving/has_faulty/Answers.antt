use Rattle.std.proofs.Common.{sym}
use Rattle.adf_serve.proofs.serving.has_faulty.Goals as goal

pub returns-in-Script : goal.returns-in-Script
returns-in-Script c = (c.loop-text.text-index, c.text-item.result, c.loop-text-test.true, sym c.text-item.is, c.in-Script.is)
