use Rattle.std.proofs.Common.{arith, refl}
use Rattle.ados_census.proofs.Mending.{other_mended, other_now, sound_now}
use Rattle.ados_census.proofs.class.look_as.Goals as goal

pub returns-then-has_fields : goal.returns-then-has_fields
returns-then-has_fields c = sound_now c.args.image.now c.args.block c.args.kind (omega arith) (c.if-has_fields.ensures.0 refl)

pub returns-then-sum-eq0 : goal.returns-then-sum-eq0
returns-then-sum-eq0 c = other_now c.args.image.now c.args.block c.args.kind (omega arith) (λ fields. let t = c.if-has_fields.ensures.1 fields in cc t)

pub returns : goal.returns
returns c = other_mended c.args.image.now c.args.block c.args.kind (λ z. absurd (omega (arith, z))) c.in_default.ensures
