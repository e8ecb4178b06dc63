use Rattle.ados_check.proofs.Common.{◌≡◌, ℕ, ◌+◌, ◌-◌, ◌*◌, ◌++◌, List, take, drop, append_assoc, sym, ap, ap₂, ◌∙◌, subst, arith, AreKept, all_bytes}
use Rattle.std.proofs.Math.Seq.{take-add}
use Rattle.ados_check.proofs.sketch.Sketch.with.Goals as goal

pub loop-place-preserved : goal.loop-place-preserved
loop-place-preserved c =
    let place = c.loop-place.place in
    let piece = c.args.piece.now.items in
    let before = all_bytes c.self.inside.pieces.value in
    let next : 512 * (place + 1) ≡ 512 * place + 512 = omega arith in
    let size : (place + 1) * 512 - place * 512 ≡ 512 = omega arith in
    let from : place * 512 ≡ 512 * place = omega arith in
    let block = ap₂ (λ (m k : ℕ). take m (drop k c.deref.result.now)) size from ∙ ap (λ (xs : List ℕ). take 512 (drop (512 * place) xs)) c.deref.ensures.value in
    subst (AreKept c.keep.new.starts.items c.keep.new.kept.items)
    (append_assoc before (take (512 * place) piece) _
    ∙ ap (λ (xs : List ℕ). before ++ xs) (ap (λ (xs : List ℕ). take (512 * place) piece ++ xs) block ∙ sym (take-add (512 * place) 512 piece) ∙ ap (λ (n : ℕ). take n piece) (sym next)))
    (c.in_ok-keep.ensures (before ++ take (512 * place) piece) c.loop-place.invariant)
