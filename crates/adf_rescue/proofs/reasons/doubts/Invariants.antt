use Rattle.std.proofs.Common.{take}
use Rattle.std.specs.List.{AllZip}
use Rattle.adf_rescue.proofs.Doubting.{IsReasonOf}
use Rattle.adf_rescue.proofs.reasons.doubts.Given as goal

-- the reasons of the entries before this one
abbrev pub invariant-loop-entry : goal.invariant-loop-entry
invariant-loop-entry l = AllZip (IsReasonOf l.salvage) (take l.entry-index l.entries) l.doubts.items
