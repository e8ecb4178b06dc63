use Rattle.ados_salvage.proofs.Common.{ℕ, List, inl, refl, IfOk-weaker}
use Rattle.ados_salvage.specs.Undeleted.{IsRead, TellsUndeleted}
use Rattle.ados_salvage.specs.declared.undeleted.UndeletedEntries.{UndeletedEntries}
use Rattle.ados_salvage.proofs.undeleted.undelete.Goals as goal

pub returns-then-is_faultless : goal.returns-then-is_faultless
returns-then-is_faultless c =
    IfOk-weaker c.undelete_read.result (TellsUndeleted c.args.image) (λ (entries : UndeletedEntries). (read : List ℕ) × IsRead c.args.image read × TellsUndeleted read entries)
    (λ entries told. (c.args.image, inl (c.is_faultless.ensures c.if-is_faultless.true, refl), told)) c.undelete_read.ensures
