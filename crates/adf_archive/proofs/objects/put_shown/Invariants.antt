use Rattle.std.proofs.Common.{◌≡◌, ◌++◌, take}
use Rattle.adf_archive.proofs.Common.{flat_map, shown_tokens}
use Rattle.adf_archive.proofs.objects.put_shown.Given as goal

-- the objects of the faults before this one
abbrev pub invariant-loop-shown : goal.invariant-loop-shown
invariant-loop-shown l = (l.writer.before ≡ l.fn.writer.before) × (l.writer.tokens ≡ l.fn.writer.tokens ++ flat_map shown_tokens (take l.shown-index l.faults))
