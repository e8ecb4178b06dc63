use Rattle.std.proofs.Common.{take}
use Rattle.std.specs.List.{AllZip}
use Rattle.adf_rescue.proofs.Marks.{IsMark}
use Rattle.adf_rescue.proofs.untrusted.untrusted_marks.Given as goal

-- the marks of the entries before this one
abbrev pub invariant-loop-entry : goal.invariant-loop-entry
invariant-loop-entry l = AllZip (IsMark l.salvage) (take l.entry-index l.entries) l.marks.items
