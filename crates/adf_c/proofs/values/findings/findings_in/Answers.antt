use Rattle.std.proofs.Common.{List, arith, subst}
use Rattle.ados_model.specs.declared.fault.VolumeFault.{VolumeFault}
use Rattle.ados_faults.specs.Listed.{Marks}
use Rattle.adf_c.specs.Findings.{AreFindings}
use Rattle.adf_c.proofs.values.findings.findings_in.Goals as goal

pub returns : goal.returns
returns c = record {
  image = c.blocks-2.ensures.image;
  faults = c.in_ok-found.found.faults.items;
  lists = c.in_ok-found.ensures.lists;
  all = record { alone = c.in_ok-found.ensures.alone (omega arith); each = c.in_ok-found.ensures.each; first = c.in_ok-found.ensures.first };
  marks = c.in_ok-found.found.marks.items;
  marked = c.in_ok-found.ensures.marked;
  told_are = subst (λ (l : List VolumeFault). AreFindings c.args.image.now c.in_ok-found.found.marks.items l c.in_ok-findings.findings.items) c.deref-2.ensures.value
      (subst (λ (marks : Marks). AreFindings c.args.image.now marks c.deref-2.result.now c.in_ok-findings.findings.items) c.deref.ensures.value c.in_ok-findings.ensures);
  none = c.in_ok-found.ensures.none (omega arith);
  whole = c.in_ok-found.ensures.whole;
}
