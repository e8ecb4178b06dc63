use Rattle.std.proofs.Common.{inr}
use Rattle.adf_c.proofs.values.findings.finding_of.Goals as goal

pub returns-in-Some : goal.returns-in-Some
returns-in-Some c = inr (c.in-Some.values, c.in-Some.ensures, c.of.ensures)
