use Rattle.ados_volume.proofs.Common.{inl, inr, refl}
use Rattle.ados_volume.proofs.cache.NameCache.enter.Goals as goal

pub returns-then-not-put : goal.returns-then-not-put
returns-then-not-put c = record { adds = c.put.ensures.pairs.adds; keeps = c.put.ensures.pairs.keeps; whole = inr c.clear.ensures.empty }

pub returns-else-not-put : goal.returns-else-not-put
returns-else-not-put c = record { adds = c.put.ensures.pairs.adds; keeps = c.put.ensures.pairs.keeps; whole = inl (c.put.ensures.whole, c.if-not-put.ensures.pairs.there refl) }
