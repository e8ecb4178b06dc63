use Rattle.std.proofs.Common.{Bor, List, ℕ, [], ◌∷◌, map, sym, subst}
use Rattle.adf_import.proofs.Common.{chars, Date3, EndsAt, EndsInTurn, ReadsFirst}
use Rattle.adf_cli.specs.declared.change.Change.{Change}
use Rattle.adf_import.specs.Commands.{ChangesVolume, Dates, Deletes, MakesWith}
use Rattle.adf_import.proofs.Turning.{text_of}
use Rattle.adf_import.proofs.change.change_entries.Goals as goal

pub returns-in-MakeDirectories : goal.returns-in-MakeDirectories
returns-in-MakeDirectories c =
    let after = c.change_each.new.volume in
    subst (λ (change : Change). ChangesVolume change c.args.moment c.args.volume.now after c.change_each.result) (sym c.in-MakeDirectories.is)
    (subst
    (λ (paths : List (Bor (List ℕ))).
    ReadsFirst (map text_of paths) (EndsInTurn (MakesWith c.args.moment c.in-MakeDirectories.parents) (map text_of paths)) c.args.volume.now after c.change_each.result)
    c.as_slice.ensures.value c.change_each.ensures)

pub returns-in-Delete : goal.returns-in-Delete
returns-in-Delete c =
    let after = c.change_each-in-Delete.new.volume in
    subst (λ (change : Change). ChangesVolume change c.args.moment c.args.volume.now after c.change_each-in-Delete.result) (sym c.in-Delete.is)
    (subst
    (λ (paths : List (Bor (List ℕ))).
    ReadsFirst (map text_of paths) (EndsInTurn (Deletes c.args.moment c.in-Delete.all c.in-Delete.force) (map text_of paths)) c.args.volume.now after c.change_each-in-Delete.result)
    c.as_slice-in-Delete.ensures.value c.change_each-in-Delete.ensures)

pub returns-in-Date : goal.returns-in-Date
returns-in-Date c =
    let after = c.change_one.new.volume in
    let path = c.in-Date.path.now in
    subst (λ (change : Change). ChangesVolume change c.args.moment c.args.volume.now after c.change_one.result) (sym c.in-Date.is)
    (subst (λ (date : Date3). ReadsFirst (path ∷ []) (EndsAt (Dates c.args.moment (chars path) date) path) c.args.volume.now after c.change_one.result)
    c.unwrap_or.ensures c.change_one.ensures)
