use Rattle.ados_salvage.proofs.KnownCommon.{◌≡◌, ℕ, ◌-◌, ◌+◌, ◌<◌, ◌≤◌, arith}
use Rattle.std.proofs.lemmas.Grind.{common_steps}
use Rattle.adf_block.specs.declared.layout.TheConstants.{FIRST_SLOT, TABLE_LONGS}
use Rattle.ados_salvage.proofs.known.header.dir_of_place.Goals as goal

-- a long of a table is one of its slots
slot_at : (at : ℕ) → 6 ≤ at → at < 78 → (slot : ℕ) × (slot < TABLE_LONGS) × (at ≡ FIRST_SLOT + slot)
slot_at at from to = (at - 6, omega (arith, from, to), omega (arith, from))

pub returns : goal.returns
returns c = λ dir. grind (arith, common_steps, slot_at c.args.at c.if-at-lt-FIRST_SLOT.false c.if-at.false)
