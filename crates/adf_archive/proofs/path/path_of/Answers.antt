use Rattle.std.proofs.Common.{◌≡◌, ◌≢◌, ℕ, List, ◌++◌, ◌∷◌, Some, length, sym, ap, ◌∙◌, arith}
use Rattle.adf_archive.proofs.Common.{name_of, parent_of, root}
use Rattle.adf_text.specs.Letters.{letters}
use Rattle.adf_archive.proofs.Climbing.{ends_at_root, ends_more, no_shorter}
use Rattle.adf_archive.proofs.path.path_of.Goals as goal

pub returns-in-Some : goal.returns-in-Some
returns-in-Some c = λ t s.
    let up : parent_of t c.loop-alloc.top ≡ Some c.in-Some.above = sym (c.parent.ensures.parent t s) ∙ c.in-Some.is in (
      c.loop-alloc.path.items,
      ends_at_root t c.args.key c.loop-alloc.top c.in-Some.above c.loop-alloc.path.items up (c.loop-alloc.invariant.ends t s) (c.if-above-root.true ∙ c.root.ensures.root t s),
      omega (arith, c.loop-alloc-test.true, c.len.ensures),
      c.in_ok-letter_text-in-Some.ensures ∙ ap letters c.deref.ensures.value,
    )

pub loop-alloc-smaller : goal.loop-alloc-smaller
loop-alloc-smaller c = omega (arith, c.loop-alloc-test.true, c.len.ensures, c.in_ok-path-in-Some-2.ensures.longer, ap length c.deref-in-Some-2.ensures.value)

pub loop-alloc-preserved : goal.loop-alloc-preserved
loop-alloc-preserved c = record {
  key = c.in-Some.ensures.key;
  ends = λ t s.
      let up : parent_of t c.loop-alloc.top ≡ Some c.in-Some.above = sym (c.parent.ensures.parent t s) ∙ c.in-Some.is in
      let other : c.in-Some.above ≢ root t = λ e. c.if-above-root.false (e ∙ sym (c.root.ensures.root t s)) in
      ends_more t c.args.key c.loop-alloc.top c.in-Some.above c.loop-alloc.path.items up (c.loop-alloc.invariant.ends t s) other c.in_ok-path-in-Some-2.path.items
      (c.in_ok-path-in-Some-2.ensures.path t s ∙ ap (λ (l : List ℕ). name_of t c.in-Some.above ++ 47 ∷ l) c.deref-in-Some-2.ensures.value);
}

pub returns : goal.returns
returns c = λ t s whole has.
    no_shorter t c.args.key c.loop-alloc.top c.loop-alloc.path.items (c.loop-alloc.invariant.ends t s) 255 (omega (arith, c.loop-alloc-test.false, c.len.ensures)) whole has
