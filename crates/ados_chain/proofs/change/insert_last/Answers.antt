use Rattle.ados_chain.proofs.Common.{inl, refl}
use Rattle.ados_chain.proofs.change.insert_last.Goals as goal

pub insert_last_near-requires-clause-near : goal.insert_last_near-requires-clause-near
insert_last_near-requires-clause-near c = λ chains h. inl refl
