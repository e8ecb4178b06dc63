use Rattle.std.proofs.Common.{◌≡◌, ℕ, List, Ok, subst}
use Rattle.adf_import.proofs.Common.{chars, directory_at}
use Rattle.adf_import.proofs.Naming.{put_as}
use Rattle.adf_import.proofs.Putting.{is_put}
use Rattle.adf_import.proofs.one_file.add_as.Goals as goal

pub returns-in-Ok : goal.returns-in-Ok
returns-in-Ok g c =
    put_as c.args.how.moment (chars c.args.target.to.now) (chars c.args.target.name.now) c.args.how.force c.in_ok-dir.dir c.args.volume.now c.put_file.new.volume
    (λ t s. subst (λ (path : List ℕ). directory_at (chars path) t ≡ Ok c.in_ok-dir.dir) c.in_ok-to.ensures.same (c.in_ok-dir.ensures.found t s))
    c.in_ok-name.name c.directory.new.volume c.directory.ensures.same c.in_ok-name.ensures
    (is_put c.args.how.moment c.in_ok-dir.dir c.in_ok-name.name c.args.how.force c.noted_file-file.result c.in-Ok.field-0 c.directory.new.volume c.put_file.new.volume c.in-Ok.ensures.put c.in-Ok.ensures.goes)
