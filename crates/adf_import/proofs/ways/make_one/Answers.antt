use Rattle.std.proofs.Common.{[], Ok, sym, ◌∙◌, subst}
use Rattle.adf_import.proofs.Common.{made, Stands, Directory, Shown, place_at, make_refusal}
use Rattle.adf_import.proofs.Finding.{at_found, changed_from}
use Rattle.adf_import.proofs.ways.make_one.Goals as goal

pub returns-in-Ok : goal.returns-in-Ok
returns-in-Ok c =
    let dir = c.in_ok-dir.dir in
    let name = c.in_ok-dir.name in (
      c.in-Ok.field-0,
      λ t s. at_found _ _ (place_at c.args.path.now t) (dir, name) (sym (c.place.ensures.place t s) ∙ c.in_ok-dir.was)
          (changed_from (make_refusal dir name) (λ key t. made c.args.moment dir key name (Directory []) t) c.args.volume.now c.place.new.volume c.make_directory.new.volume (Ok c.in-Ok.field-0) c.place.ensures.same c.in-Ok.ensures.made),
      λ t s. c.in-Ok.ensures.unused t (subst (λ (v : Shown). Stands v.image t) (sym c.place.ensures.same) s),
    )
