use Rattle.adf_text.proofs.Common.{◌≡◌, take, escaped}
use Rattle.adf_text.proofs.escapes.escaped.Given as goal

abbrev pub invariant-loop-byte : goal.invariant-loop-byte
invariant-loop-byte l = l.shown.items ≡ escaped l.place (take l.byte-index l.bytes)
