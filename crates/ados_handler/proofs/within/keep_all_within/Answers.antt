use Rattle.std.proofs.Common.{refl, arith}
use Rattle.ados_model.specs.Phrases.{within}
use Rattle.ados_handler.proofs.MovedEach.{moves_all, moves_next}
use Rattle.ados_handler.proofs.within.keep_all_within.Goals as goal

pub loop-place-init : goal.loop-place-init
loop-place-init c = record { below = λ key low. absurd (omega (arith, low)); above = λ key high. refl; room = record { len = refl; vacant_key = refl; capacity = refl } }

pub loop-place-preserved : goal.loop-place-preserved
loop-place-preserved c = moves_next (within c.args.key c.args.size) _ _ _ _ c.loop-place.invariant c.keep_one_within.ensures

pub returns : goal.returns
returns c = moves_all (within c.args.key c.args.size) _ _ _ c.loop-place.invariant (omega (arith, c.capacity-place-end.ensures.slots))
