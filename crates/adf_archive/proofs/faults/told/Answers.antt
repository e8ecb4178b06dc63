use Rattle.std.proofs.Common.{All, List, sym, subst, arith}
use Rattle.adf_archive.proofs.Common.{AreAllFaults, HasValues, Marks, VolumeFault}
use Rattle.adf_archive.proofs.Shown.{many, shown_all}
use Rattle.adf_archive.proofs.faults.told.Goals as goal

pub returns : goal.returns
returns c =
    let image = c.args.image.now in
    let faults = c.in_ok-shown_faults.field-0.items in
    let is = c.in_ok-shown_faults.ensures in
    record {
      is = record {
        kind = c.boot_kind.ensures;
        blocks = c.blocks-2.ensures.count;
        some = omega (arith, c.requires.some, many faults c.args.faults.now is.faults);
        shown = shown_all image faults c.args.faults.now is.faults c.requires.shown;
        values = (c.args.found.now.marks.items, c.requires.marks, subst (λ (marks : Marks). All (HasValues image marks) faults) c.deref.ensures.value is.values);
        bitmap = c.has_only_bitmap_faults.ensures image c.requires.found;
      };
      each = λ all. subst (λ (shown : List VolumeFault). AreAllFaults image 1000 c.args.more shown) (sym is.faults) (c.requires.each all);
      one = λ first. (omega (arith, (c.requires.one first).0, many faults c.args.faults.now is.faults), (c.requires.one first).1);
    }
