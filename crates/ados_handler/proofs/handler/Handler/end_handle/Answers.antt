use Rattle.ados_handler.proofs.Sound.{sound_without_handle}
use Rattle.ados_handler.proofs.handler.Handler.end_handle.Goals as goal

pub invariant_of-self : goal.invariant_of-self
invariant_of-self c = sound_without_handle c.self.inside.volume.image c.self.inside.locks.held c.self.inside.handles.held c.self.inside.died c.self.invariant c.args.handle c.remove.new.self.held c.remove.ensures.held
