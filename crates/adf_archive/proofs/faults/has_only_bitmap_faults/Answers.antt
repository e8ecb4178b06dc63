use Rattle.std.proofs.Common.{All, subst}
use Rattle.adf_archive.proofs.Common.{IsOfMarks, VolumeFault}
use Rattle.adf_archive.proofs.Shown.{only_marks}
use Rattle.adf_archive.proofs.faults.has_only_bitmap_faults.Goals as goal

pub returns : goal.returns
returns c = λ image are yes.
    only_marks image c.args.found.now.more c.args.found.now.faults.items c.if-found.false
    (subst (All (λ (fault : VolumeFault). IsOfMarks fault.kind)) c.deref-2.ensures.value (c.are_of_bitmap.ensures yes)) are
