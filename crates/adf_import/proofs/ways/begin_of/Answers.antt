use Rattle.std.proofs.Common.{arith}
use Rattle.adf_import.proofs.Parts.{begins_behind, begins_first, colon_later, colon_none}
use Rattle.adf_import.proofs.ways.begin_of.Goals as goal

pub loop-at-init : goal.loop-at-init
loop-at-init c = colon_none c.args.path.now

pub loop-at-preserved : goal.loop-at-preserved
loop-at-preserved c = colon_later c.args.path.now c.loop-at.at (omega arith) c.loop-at.invariant c.if-path-at-eq58.false

pub returns-then-path-at-eq58 : goal.returns-then-path-at-eq58
returns-then-path-at-eq58 c = begins_behind c.args.path.now c.loop-at.at (omega arith) c.loop-at.invariant c.if-path-at-eq58.true

pub returns : goal.returns
returns c = begins_first c.args.path.now c.loop-at.at (omega (arith, c.loop-at-test.false)) c.loop-at.invariant
