use Rattle.std.specs.Prelude.{◌+◌, ◌*◌}
use Rattle.adf_archive.proofs.parallel.+shares.Given as goal

-- by the number of threads
abbrev pub decreases-reports_by : goal.decreases-reports_by
decreases-reports_by g l = 2 * l.jobs

abbrev pub decreases-front : goal.decreases-front
decreases-front g l = 2 * l.few + 1

abbrev pub decreases-back : goal.decreases-back
decreases-back g l = 2 * l.many + 1
