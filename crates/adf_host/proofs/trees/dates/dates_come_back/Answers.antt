use Rattle.adf_host.proofs.DateLemmas.{date_comes_back}
use Rattle.adf_host.proofs.trees.dates.dates_come_back.Goals as goal

pub returns : goal.returns
returns c = date_comes_back
