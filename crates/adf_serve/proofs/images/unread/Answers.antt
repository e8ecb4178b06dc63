use Rattle.adf_archive.proofs.Sizes.{size_shown}
use Rattle.adf_serve.proofs.images.unread.Goals as goal

pub returns-in-Size : goal.returns-in-Size
returns-in-Size g c =
    let shown = size_shown c.in-Size.refused.fault in
    (shown.0, (c.in-Size.refused.fault, shown.1, c.of_size.ensures.kind, c.of_size.ensures.block))
