use Rattle.ados_salvage.proofs.ByCensus.{headers_look, sound_headers}
use Rattle.ados_salvage.proofs.known.laws.headers_by_census.Goals as goal

pub returns-clause-sound : goal.returns-clause-sound
returns-clause-sound c = sound_headers

pub returns-clause-look : goal.returns-clause-look
returns-clause-look c = headers_look
