use Rattle.std.proofs.Common.{ℕ, Vec, Global, ◌+◌, sym, ap, ◌∙◌, subst, arith}
use Rattle.std.proofs.Common.{◌≡◌, List}
use Rattle.std.proofs.lemmas.Result.{IfOk-weaker}
use Rattle.ados_salvage.specs.Found.{AreUnreached}
use Rattle.ados_salvage.proofs.Splitting.{Splits, splits_left, splits_more}
use Rattle.ados_salvage.proofs.Keeping.{IsAside, IsKept, unreached_by}
use Rattle.ados_salvage.proofs.known.unreached.unreached_headers.Goals as goal
use Rattle.ados_salvage.proofs.known.unreached.unreached_headers.Goals.{then-is_unreached+in_ok-push, else-is_unreached}

pub loop-block-preserved : goal.loop-block-preserved
loop-block-preserved c =
    elim c.if-is_unreached.branch [
      | then-is_unreached+in_ok-push w ↦
          splits_more (IsAside c.args.left_out.now c.args.image.now) (IsKept c.args.left_out.now c.args.image.now) c.loop-block.block c.loop-block.headers.items c.loop-block.invariant c.if-is_unreached.headers.items
          (ap (λ (v : Vec ℕ Global). v.items) w.headers-is ∙ w.in_ok-push.ensures.items) (rw w.if-is_unreached.true at c.is_unreached.ensures)
      | else-is_unreached w ↦
          subst (λ (v : Vec ℕ Global). Splits (IsAside c.args.left_out.now c.args.image.now) (IsKept c.args.left_out.now c.args.image.now) (c.loop-block.block + 1) v.items) (sym w.headers-is)
          (splits_left (IsAside c.args.left_out.now c.args.image.now) (IsKept c.args.left_out.now c.args.image.now) c.loop-block.block c.loop-block.headers.items c.loop-block.invariant (rw w.if-is_unreached.false at c.is_unreached.ensures))
    ]

pub returns : goal.returns
returns c =
    IfOk-weaker c.of.result (λ (unreached : List ℕ). unreached ≡ c.loop-block.headers.items) (AreUnreached c.args.left_out.now c.args.image.now)
    (λ unreached same. subst (AreUnreached c.args.left_out.now c.args.image.now) (sym same)
    (unreached_by c.args.left_out.now c.args.image.now c.loop-block.block c.loop-block.headers.items (omega (arith, c.loop-block-test.false, c.blocks-block-end.ensures.count)) c.requires.inside c.loop-block.invariant)) c.of.ensures
