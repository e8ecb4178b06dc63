use Rattle.std.proofs.Common.{sym, ap, ◌∙◌}
use Rattle.adf_block.specs.Image.{long}
use Rattle.ados_salvage.proofs.Trusting.{trust_decided}
use Rattle.ados_salvage.proofs.known.trust.is_trusted.Goals as goal

pub returns : goal.returns
returns c =
    let pages = rw c.if-not-are_trusted_pages.false at c.are_trusted_pages.ensures in
    let valid = sym (ap (λ root. long c.args.image.now root 78) c.root.ensures) ∙ sym c.long.ensures ∙ c.if-long.false in
    trust_decided c.args.image.now c.args.faults.now c.requires.shown c.requires.all c.are_no_doubts.ensures.image valid pages c.are_no_doubts.result c.are_no_doubts.ensures.doubt
