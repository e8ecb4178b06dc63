use Rattle.std.proofs.Common.{sym, subst}
use Rattle.adf_import.proofs.Common.{Shown, IsReady}
use Rattle.adf_import.proofs.adding.add_entry.Goals as goal

pub free_name-requires : goal.free_name-requires
free_name-requires g c = (c.directory-dir.ensures c.args.volume.now.image c.requires).dir

pub put_item-requires : goal.put_item-requires
put_item-requires g c =
    subst (λ (v : Shown). IsReady v.image c.directory-dir.result c.args.adding.now.progress) (sym c.free_name.ensures) (c.directory-dir.ensures c.args.volume.now.image c.requires)
