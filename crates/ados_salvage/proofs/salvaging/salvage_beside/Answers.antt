use Rattle.ados_salvage.proofs.Common.{Bool, List, subst}
use Rattle.ados_salvage.specs.Holes.{IsEmptied, LeadsToNone}
use Rattle.ados_salvage.proofs.Answering.{reached_none, refused_beside}
use Rattle.ados_salvage.proofs.salvaging.salvage_beside.Goals as goal

pub returns-then-reaches : goal.returns-then-reaches
returns-then-reaches c =
    refused_beside c.told_headers.result c.args.holes.items c.args.listed c.args.image c.emptied-image.result (subst (λ (marks : List Bool). IsEmptied marks c.args.image c.emptied-image.result) c.deref.ensures.value c.emptied-image.ensures)
    (c.told_headers.ensures.saves c.emptied-image.result c.in_ok-image.ensures) c.told_headers.ensures.holes

pub returns : goal.returns
returns c =
    reached_none c.salvage_of.result c.args.holes.items c.args.listed c.args.image c.emptied-image.result (subst (λ (marks : List Bool). IsEmptied marks c.args.image c.emptied-image.result) c.deref.ensures.value c.emptied-image.ensures)
    (subst (λ (marks : List Bool). LeadsToNone marks c.args.listed c.emptied-image.result) c.deref-2.ensures.value (c.in_ok-reaches.ensures c.if-reaches.false)) c.salvage_of.ensures.salvages
