use Rattle.ados_handler.proofs.Sound.{sound_opening}
use Rattle.ados_handler.proofs.handler.Handler.new.Goals as goal

pub invariant_of-result : goal.invariant_of-result
invariant_of-result c = sound_opening c.args.volume.image c.image.ensures.stands c.new.result.held c.new-2.result.held c.new.ensures.held c.new-2.ensures.held
