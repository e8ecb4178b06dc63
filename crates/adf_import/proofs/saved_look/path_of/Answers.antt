use Rattle.std.proofs.Common.{List, subst}
use Rattle.ados_salvage.specs.declared.salvaged.Salvaged.{Salvaged}
use Rattle.adf_import.specs.SavedLeft.{IsNameAt}
use Rattle.adf_import.proofs.SavedNoting.{ok_more}
use Rattle.adf_import.proofs.SavedPlaces.{found_in}
use Rattle.adf_import.proofs.saved_look.path_of.Goals as goal

pub returns-in-Directory-clause-there : goal.returns-in-Directory-clause-there
returns-in-Directory-clause-there c =
    let saved = c.args.salvage.now in
    let own = c.args.own.now in
    let item = c.args.item.now in
    let named : IsNameAt saved.entries own item.spot item.name = subst (λ (es : List Salvaged). IsNameAt es own item.spot item.name) c.entries.ensures (c.in_ok-named.ensures c.if-not-named.false) in
    let above = c.in-Directory.ensures in
    ok_more _ _ c.child_at.result (λ there told. found_in c.args.volume.now.image saved own item.spot c.in-Directory.dir item.name there above.0 above.1 named told) c.child_at.ensures.there
