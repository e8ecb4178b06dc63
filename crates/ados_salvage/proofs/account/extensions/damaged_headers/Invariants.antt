use Rattle.std.proofs.Common.{take}
use Rattle.ados_salvage.specs.Account.{OfOne}
use Rattle.ados_salvage.specs.steps.Accounting.{HasExactly, IsDamagedHeader}
use Rattle.ados_salvage.proofs.account.extensions.damaged_headers.Given as goal

abbrev pub invariant-loop-entry : goal.invariant-loop-entry
invariant-loop-entry l = HasExactly (OfOne IsDamagedHeader (take l.entry-index l.entries)) l.headers
