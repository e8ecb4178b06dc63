use Rattle.std.proofs.Common.{arith}
use Rattle.ados_salvage.proofs.ByCensus.{first_holds, headers_look, second_holds}
use Rattle.ados_salvage.proofs.known.header.looks_like_header.Goals as goal

pub returns-then-looks_like : goal.returns-then-looks_like
returns-then-looks_like c =
    first_holds c.if-looks_like.true c.looks_like.ensures (headers_look c.args.image.now c.args.block c.blocks-blocks.ensures.image (omega arith, omega arith))

pub returns-else-looks_like : goal.returns-else-looks_like
returns-else-looks_like c =
    second_holds c.if-looks_like.false c.looks_like.ensures c.looks_like-else-looks_like.ensures
    (headers_look c.args.image.now c.args.block c.blocks-blocks.ensures.image (omega arith, omega arith))
