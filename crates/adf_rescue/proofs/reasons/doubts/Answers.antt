use Rattle.std.proofs.Common.{◌+◌, List, take, sym, ◌∙◌, subst}
use Rattle.std.specs.List.{AllZip}
use Rattle.std.proofs.lemmas.List.{take_all}
use Rattle.ados_salvage.specs.declared.salvaged.Salvaged.{Salvaged}
use Rattle.adf_rescue.proofs.Doubting.{IsReasonOf, doubts_more}
use Rattle.adf_rescue.proofs.reasons.doubts.Goals as goal

pub loop-entry-init : goal.loop-entry-init
loop-entry-init c = subst (AllZip (IsReasonOf c.args.salvage.now) (take 0 c.entries-entries.result.now)) (sym c.in_ok-doubts.ensures.items) tt

pub loop-entry-preserved : goal.loop-entry-preserved
loop-entry-preserved c =
    let saved = c.args.salvage.now in
    let entries = c.entries-entries.result.now in
    let i = c.loop-entry.entry-index in
    subst (AllZip (IsReasonOf saved) (take (i + 1) entries)) (sym c.in_ok-push.ensures.items)
    (doubts_more saved entries i c.loop-entry.doubts.items c.entry-item.result c.doubt_of.result c.loop-entry-test.true c.entry-item.is c.loop-entry.invariant c.doubt_of.ensures)

pub returns : goal.returns
returns c =
    let saved = c.args.salvage.now in
    subst (λ (es : List Salvaged). AllZip (IsReasonOf saved) es c.loop-entry.doubts.items) (take_all c.loop-entry.entry-index c.entries-entries.result.now c.loop-entry-test.false ∙ c.entries-entries.ensures) c.loop-entry.invariant
