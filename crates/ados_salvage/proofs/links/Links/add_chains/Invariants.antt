use Rattle.std.proofs.Common.{◌≡◌, length}
use Rattle.ados_salvage.proofs.links.Links.add_chains.Given as goal

abbrev pub invariant-loop-it : goal.invariant-loop-it
invariant-loop-it l = length l.passed.items ≡ length l.initial.passed.items
