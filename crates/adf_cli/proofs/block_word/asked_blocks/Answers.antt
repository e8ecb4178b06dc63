use Rattle.std.proofs.Common.{arith}
use Rattle.adf_cli.proofs.Naming.{told_of_one}
use Rattle.adf_cli.proofs.block_word.asked_blocks.Goals as goal

pub returns-in-Err-clause-fault : goal.returns-in-Err-clause-fault
returns-in-Err-clause-fault c = told_of_one c.args.words.now c.loop-word.word-index _ c.in-Err.fault (omega (arith, c.loop-word-test.true)) c.in-Err.ensures.fault
