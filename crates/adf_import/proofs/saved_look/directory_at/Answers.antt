use Rattle.std.proofs.Common.{rules, ◌≡◌, Some, refl, sym, ◌∙◌}
use Rattle.adf_import.proofs.SavedPlaces.{root_is_at}
use Rattle.adf_import.specs.SavedLeft.{spot_above}
use Rattle.adf_import.specs.SavedLeft.HasNoDirectory.{has_file, has_none_above, is_vacant}
use Rattle.adf_import.proofs.saved_look.directory_at.Goals as goal

pub returns-then-is_root : goal.returns-then-is_root
returns-then-is_root c = (
  c.root.ensures.directory,
  λ t s. (
    c.in-Some.above,
    search rules,
    root_is_at t c.args.salvage.now.entries c.args.own.now c.in-Some.above c.root.result (c.if-is_root.ensures.0 refl) (c.root.ensures.root t s),
  ),
)

pub returns-then-is_file : goal.returns-then-is_file
returns-then-is_file c = λ t s.
    let up : spot_above c.args.salvage.now.entries c.args.item.now.spot ≡ Some c.in-Some.above = search rules in
    let o = c.in-Object.ensures c.args.volume.now.image c.args.salvage.now c.args.own.now c.requires in
    (c.in-Some.above, up, has_file c.in-Object.key (o.there t s) (sym (c.is_file.ensures.file t s) ∙ c.if-is_file.true))

pub returns-else-is_file : goal.returns-else-is_file
returns-else-is_file c =
    let o = c.in-Object.ensures c.args.volume.now.image c.args.salvage.now c.args.own.now c.requires in
    (c.is_file.ensures.directory c.if-is_file.false, λ t s. (c.in-Some.above, search rules, o.there t s))

pub returns-then-free_blocks-eq0 : goal.returns-then-free_blocks-eq0
returns-then-free_blocks-eq0 c = λ t s.
    let up : spot_above c.args.salvage.now.entries c.args.item.now.spot ≡ Some c.in-Some.above = search rules in
    let vacant = c.in-Nothing.ensures c.args.volume.now.image c.args.salvage.now c.args.own.now c.requires t s in
    (c.in-Some.above, up, is_vacant vacant (sym (c.free_blocks.ensures t s) ∙ c.if-free_blocks-eq0.true))

pub returns-in-NoDirectory : goal.returns-in-NoDirectory
returns-in-NoDirectory c = λ t s.
    let up : spot_above c.args.salvage.now.entries c.args.item.now.spot ≡ Some c.in-Some.above = search rules in
    let cut = c.in-NoDirectory.ensures c.args.volume.now.image c.args.salvage.now c.args.own.now c.requires t s in
    (c.in-Some.above, up, has_none_above cut.1 cut.2)
