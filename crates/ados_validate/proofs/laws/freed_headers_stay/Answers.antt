use Rattle.ados_validate.proofs.FreedHeaders.{freed_headers_stay}
use Rattle.ados_validate.proofs.laws.freed_headers_stay.Goals as goal

pub returns : goal.returns
returns c = freed_headers_stay
