use Rattle.ados_check.proofs.Common.{subst, AreSoundFiles, AreUnlike}
use Rattle.ados_check.proofs.check.sound_marks.Goals as goal

pub returns : goal.returns
returns c = record {
  boot = c.requires;
  reached = c.in_ok-marks.ensures;
  files = subst (AreSoundFiles c.args.source.now.bytes) c.deref.ensures.value c.in_ok-check_files.ensures;
  unlike = subst (AreUnlike c.args.source.now.bytes) c.deref-2.ensures.value c.in_ok-check_names.ensures;
}
