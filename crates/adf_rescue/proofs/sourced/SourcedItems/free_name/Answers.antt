use Rattle.std.proofs.Common.{arith}
use Rattle.adf_rescue.proofs.Sourcing.{free_if_long, plain_ending}
use Rattle.adf_rescue.proofs.sourced.SourcedItems.free_name.Goals as goal

pub with_ending-requires-clause-plain : goal.with_ending-requires-clause-plain
with_ending-requires-clause-plain c = plain_ending

pub returns : goal.returns
returns c = free_if_long c.args.self.now c.requires c.args.above c.loop-ending.name (omega arith)
