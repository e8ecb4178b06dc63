use Rattle.ados_check.proofs.Common.{◌≡◌, ◌++◌, ◌∷◌, [], ℕ, List, Option, Some, length, take, sym, ap, ◌∙◌, subst, subst₂, arith, AreKept}
use Rattle.ados_check.proofs.Adding.{added_none, added_some}
use Rattle.ados_check.proofs.sketch.keep.Goals as goal

pub returns-then-sum-ne0 : goal.returns-then-sum-ne0
returns-then-sum-ne0 c = λ image are.
    subst (λ (starts : List (Option ℕ)). AreKept starts c.args.kept.now.items (image ++ c.args.block.now)) (sym c.in_ok-push.ensures.items)
    (added_none c.args.starts.now.items c.args.kept.now.items image c.args.block.now c.requires.size (λ i. omega (arith, c.type_inv.block i)) (λ z. c.if-sum-ne0.true (c.sum.ensures ∙ z)) are)

pub returns : goal.returns
returns c = λ image are.
    let here : length c.args.kept.now.items ≡ c.len.result = omega (arith, c.len.ensures, c.args.kept.now.ok.0) in
    subst₂ (λ (starts : List (Option ℕ)) (kept : List ℕ). AreKept starts kept (image ++ c.args.block.now))
    (ap (λ (start : ℕ). c.args.starts.now.items ++ Some start ∷ []) here ∙ sym c.in_ok-push-2.ensures.items)
    (ap (λ (n : ℕ). c.args.kept.now.items ++ take n c.args.block.now) (sym c.kept_of.ensures) ∙ sym c.in_ok-extend_from_slice.ensures.items)
    (added_some c.args.starts.now.items c.args.kept.now.items image c.args.block.now c.requires.size (λ i. omega (arith, c.type_inv.block i)) (sym c.sum.ensures ∙ c.if-sum-ne0.false) are)
