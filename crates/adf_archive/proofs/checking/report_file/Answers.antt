use Rattle.std.proofs.Common.{[]}
use Rattle.adf_archive.proofs.checking.report_file.Goals as goal

pub returns-then-not-is_hosts : goal.returns-then-not-is_hosts
returns-then-not-is_hosts g c = ([], record { is = tt; each = λ wanted. tt; one = λ first. tt })
