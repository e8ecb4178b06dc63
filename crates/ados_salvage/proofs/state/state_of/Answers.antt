use Rattle.ados_salvage.proofs.MissingBlocks.{tells_damaged}
use Rattle.ados_salvage.proofs.state.state_of.Goals as goal

pub returns-clause-missing : goal.returns-clause-missing
returns-clause-missing c = λ none.
    tells_damaged c.args.known.now.image c.give.new.self.pieces.items c.args.place c.args.block c.in_ok-remains.remains.missing _ _ c.damaged-state.ensures.state c.damaged-state.ensures.missing (c.in_ok-remains.ensures.missing none)
