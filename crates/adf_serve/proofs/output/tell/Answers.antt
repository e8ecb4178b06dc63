use Rattle.adf_io.proofs.Prefixes.{writes_first}
use Rattle.adf_serve.proofs.output.tell.Goals as goal

pub returns-in-Err-clause-front : goal.returns-in-Err-clause-front
returns-in-Err-clause-front g c = writes_first _ _ _ _ c.in-Err.ensures.prefix
