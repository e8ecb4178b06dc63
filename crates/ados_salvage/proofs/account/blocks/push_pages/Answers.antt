use Rattle.std.proofs.Common.{ℕ, ◌+◌, ap, ◌∙◌}
use Rattle.ados_salvage.proofs.AccountCommon.{long}
use Rattle.adf_block.specs.declared.layout.TheConstants.{FIRST_PAGE}
use Rattle.ados_salvage.proofs.Telling.{told_more}
use Rattle.ados_salvage.specs.Parts.{page_told}
use Rattle.ados_salvage.specs.declared.account.part.Part.TheVariants.{Page}
use Rattle.ados_salvage.proofs.account.blocks.push_pages.Goals as goal

pub loop-p-preserved : goal.loop-p-preserved
loop-p-preserved c =
    let at = c.long.ensures ∙ ap (λ (root : ℕ). long c.args.image.now root (FIRST_PAGE + c.loop-p.p)) c.root.ensures in
    told_more (page_told c.args.image.now) c.args.told.now.items c.loop-p.told.items c.push.new.self.items c.loop-p.p _ c.loop-p.invariant c.in_ok-push.ensures.items
    (ap (λ (b : ℕ). record { block = b; part = Page c.loop-p.p }) at)
