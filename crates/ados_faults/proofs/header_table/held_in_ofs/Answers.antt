use Rattle.ados_faults.proofs.Common.{◌+◌, ℕ, List, Option, length, sym, ap, arith, ◌∙◌, slice_get, length_push}
use Rattle.ados_faults.proofs.ByHeaders.{held_more}
use Rattle.ados_faults.proofs.header_table.held_in_ofs.Goals as goal

pub loop-header-preserved : goal.loop-header-preserved
loop-header-preserved c =
    let old = c.loop-header.held.items in
    let new = c.held_by.result in
    record {
      size = ap length c.in_ok-push.ensures.items ∙ length_push old new ∙ ap (λ (n : ℕ). n + 1) c.loop-header.invariant.size;
      each = λ k sum e.
          held_more c.args.image.now old c.loop-header.header new c.loop-header.invariant.size c.loop-header.invariant.each c.held_by.ensures k sum
          (ap (λ (xs : List (Option ℕ)). slice_get xs k) (sym c.in_ok-push.ensures.items) ∙ e);
    }

pub returns : goal.returns
returns c = λ _. record { size = omega (arith, c.loop-header.invariant.size, c.loop-header-test.false, c.loop-header.auto.header-end, c.blocks-header-end.ensures.count); each = c.loop-header.invariant.each }
