use Rattle.adf_rescue.proofs.reasons.doubt_of.Goals as goal

pub returns-in-Sound : goal.returns-in-Sound
returns-in-Sound c = rw c.in-Doubtful.is (rw c.in-Sound.is (c.args.hint, c.block_doubt.ensures))
