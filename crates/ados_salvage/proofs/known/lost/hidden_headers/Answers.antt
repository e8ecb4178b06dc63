use Rattle.std.proofs.Common.{ℕ, Vec, Global, ◌+◌, sym, ap, ◌∙◌, subst, arith}
use Rattle.std.proofs.Common.{◌≡◌, List}
use Rattle.std.proofs.lemmas.Result.{IfOk-weaker}
use Rattle.ados_salvage.specs.Found.{AreHidden, IsHidden}
use Rattle.ados_salvage.proofs.Splitting.{Splits, splits_left, splits_more}
use Rattle.ados_salvage.proofs.Hiding.{IsToldIn, hidden_by}
use Rattle.ados_salvage.proofs.known.lost.hidden_headers.Goals as goal
use Rattle.ados_salvage.proofs.known.lost.hidden_headers.Goals.{then-is_hidden+in_ok-push, else-is_hidden}

pub loop-block-preserved : goal.loop-block-preserved
loop-block-preserved c = elim c.if-is_hidden.branch [
  | then-is_hidden+in_ok-push w ↦
      splits_more (IsHidden c.args.image.now) (IsToldIn c.args.image.now) c.loop-block.block c.loop-block.headers.items c.loop-block.invariant c.if-is_hidden.headers.items
      (ap (λ (v : Vec ℕ Global). v.items) w.headers-is ∙ w.in_ok-push.ensures.items) (rw w.if-is_hidden.true at c.is_hidden.ensures)
  | else-is_hidden w ↦
      subst (λ (v : Vec ℕ Global). Splits (IsHidden c.args.image.now) (IsToldIn c.args.image.now) (c.loop-block.block + 1) v.items) (sym w.headers-is)
      (splits_left (IsHidden c.args.image.now) (IsToldIn c.args.image.now) c.loop-block.block c.loop-block.headers.items c.loop-block.invariant (rw w.if-is_hidden.false at c.is_hidden.ensures))
]

pub returns : goal.returns
returns c =
    IfOk-weaker c.of.result (λ (hidden : List ℕ). hidden ≡ c.loop-block.headers.items) (AreHidden c.args.image.now)
    (λ hidden same. subst (AreHidden c.args.image.now) (sym same)
    (hidden_by c.args.image.now c.loop-block.block c.loop-block.headers.items (omega (arith, c.loop-block-test.false, c.blocks-block-end.ensures.count)) c.loop-block.invariant)) c.of.ensures
