use Rattle.ados_faults.proofs.Common.{◌+◌, ◌<◌, ℕ, Some, sym, ap, arith, ◌∙◌}
use Rattle.ados_faults.proofs.ByHeaders.{next_of_inner, next_of_last, pointer_at}
use Rattle.ados_faults.proofs.pieces.next_of.Goals as goal

pub returns-then-next-piece : goal.returns-then-next-piece
returns-then-next-piece c = sym (next_of_last c.args.image.now c.args.piece c.args.i (omega (arith, c.if-next-piece.true)))

pub returns : goal.returns
returns c =
    let more : c.args.i + 1 < c.args.piece.count = omega (arith, c.requires.within, c.if-next-piece.false) in
    ap (λ (x : ℕ). Some x) (c.long.ensures ∙ sym (pointer_at c.args.image.now c.args.piece.header (c.args.i + 1) (omega (arith, more, c.requires.piece.count))))
    ∙ sym (next_of_inner c.args.image.now c.args.piece c.args.i more)
