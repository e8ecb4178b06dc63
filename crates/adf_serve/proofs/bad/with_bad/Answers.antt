use Rattle.adf_serve.proofs.Marks.{marks_of_list, marks_of_none}
use Rattle.adf_serve.proofs.bad.with_bad.Goals as goal

pub returns-in_default-clause-marks : goal.returns-in_default-clause-marks
returns-in_default-clause-marks g c = marks_of_none c.args.list c.args.blocks c.args.before.items c.in_default.is

pub returns-clause-marks : goal.returns-clause-marks
returns-clause-marks g c =
    marks_of_list c.args.list c.in-Some.list c.args.blocks c.in_ok-bad.bad.items c.deref.result.now c.args.before.items c.in_ok-marked.field-0.items c.in-Some.is c.in_ok-bad.ensures.listed c.deref.ensures.value c.in_ok-marked.ensures
