use Rattle.ados_validate.proofs.SettlingPages.{settled_by}
use Rattle.ados_validate.proofs.settled.settle.Goals as goal

pub returns : goal.returns
returns c =
    settled_by c.args.image.now c.settle_pages.new.image c.requires c.settle_pages.ensures.rest c.set_not_valid.new.image c.settle_pages.ensures.sums c.set_not_valid.ensures.rest
    c.set_not_valid.ensures.not_valid c.set_not_valid.ensures.sum
