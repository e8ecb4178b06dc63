use Rattle.std.proofs.Common.{sym}
use Rattle.adf_serve.proofs.serving.has_run_out.Goals as goal

pub returns-in-Tries : goal.returns-in-Tries
returns-in-Tries c = (c.loop-text.text-index, c.text-item.result, c.loop-text-test.true, sym c.text-item.is, c.in-Tries.is)
