use Rattle.adf_record.proofs.Common.{◌≡◌, ℕ, ◌+◌, ◌<◌, List, [], ◌++◌, inl, inr, length, refl, sym, ap, ◌∙◌, subst, arith, slice_get_read, BundleEntry, IsHeadLine, IsPathAt, IsPathOf, LacksDirectory}
use Rattle.adf_record.proofs.Lines.{line_fault, line_of_entry, memory_fault, path_fault, text_more, text_none}
use Rattle.adf_record.proofs.bundle_lines.bundle_text.Goals as goal

pub returns-in_err-head_line-clause-fault : goal.returns-in_err-head_line-clause-fault
returns-in_err-head_line-clause-fault c = memory_fault c.args.bundle.now c.from_residual.result c.from_residual.ensures.1

pub returns-in_err-push_line-clause-fault : goal.returns-in_err-push_line-clause-fault
returns-in_err-push_line-clause-fault c =
    line_fault c.args.bundle.now 0 (c.new-text.result.items ++ [] ++ c.deref.result.now) c.in_err-push_line.field-0.0 c.from_residual-in_err-push_line.result
    (text_none c.args.bundle.now c.deref.result.now (c.new-text.result.items ++ [] ++ c.deref.result.now)
    (subst (IsHeadLine c.args.bundle.now) (sym c.deref.ensures.value) c.in_ok-head_line.ensures)
    (ap (λ (t : List ℕ). t ++ [] ++ c.deref.result.now) c.new-text.ensures.items))
    c.in_err-push_line.ensures.fault c.from_residual-in_err-push_line.ensures.1

pub loop-place-init : goal.loop-place-init
loop-place-init c = record {
  told =
      text_none c.args.bundle.now c.deref.result.now c.push_line.new.text.items
      (subst (IsHeadLine c.args.bundle.now) (sym c.deref.ensures.value) c.in_ok-head_line.ensures)
      (c.in_ok-push_line.ensures.line ∙ ap (λ (t : List ℕ). t ++ [] ++ c.deref.result.now) c.new-text.ensures.items);
  within = c.in_ok-push_line.ensures.within;
}

pub returns-in_err-path-clause-fault : goal.returns-in_err-path-clause-fault
returns-in_err-path-clause-fault c =
    path_fault c.args.bundle.now c.in_err-path.field-0.0 c.from_residual-in_err-path.result
    (elim c.in_err-path.ensures.fault [ inl none ↦ inl none | inr lacks ↦ inr (subst (λ (es : List BundleEntry). LacksDirectory es c.in_err-path.field-0.0) c.deref-in-loop-place.ensures.value lacks) ])
    c.from_residual-in_err-path.ensures.1

pub returns-in_err-line-clause-fault : goal.returns-in_err-line-clause-fault
returns-in_err-line-clause-fault c = memory_fault c.args.bundle.now c.from_residual-in_err-line.result c.from_residual-in_err-line.ensures.1

pub returns-in_err-push_line-2-clause-fault : goal.returns-in_err-push_line-2-clause-fault
returns-in_err-push_line-2-clause-fault c =
    let entries = c.args.bundle.now.entries.items in
    let entry = c.index-entry.result.now in
    let n = c.loop-place.place in
    let old = c.loop-place.text.items in
    let shown = c.deref-in-loop-place-3.result.now in
    let new = old ++ c.separator.result.now ++ shown in
    let inside : n < length entries = omega (arith, c.loop-place-test.true, c.len-place-end.ensures) in
    let is : IsPathOf entries entry c.in_ok-path.path.items =
    subst (λ (es : List BundleEntry). IsPathAt es n c.in_ok-path.path.items) c.deref-in-loop-place.ensures.value c.in_ok-path.ensures.path entry
    (slice_get_read entries (length entries) n entry refl inside c.index-entry.ensures) in
    let line = line_of_entry entries entry c.in_ok-path.path.items c.deref-in-loop-place-2.result.now c.in_ok-line.line.items shown is c.deref-in-loop-place-2.ensures.value c.in_ok-line.ensures c.deref-in-loop-place-3.ensures.value in
    line_fault c.args.bundle.now (n + 1) new c.in_err-push_line-2.field-0.0 c.from_residual-in_err-push_line-2.result
    (text_more c.args.bundle.now n entry shown old new c.loop-place.invariant.told inside c.index-entry.ensures line
    (ap (λ (s : List ℕ). old ++ s ++ shown) c.separator.ensures))
    c.in_err-push_line-2.ensures.fault c.from_residual-in_err-push_line-2.ensures.1

pub loop-place-preserved : goal.loop-place-preserved
loop-place-preserved c =
    let entries = c.args.bundle.now.entries.items in
    let entry = c.index-entry.result.now in
    let n = c.loop-place.place in
    let old = c.loop-place.text.items in
    let shown = c.deref-in-loop-place-3.result.now in
    let inside : n < length entries = omega (arith, c.loop-place-test.true, c.len-place-end.ensures) in
    let is : IsPathOf entries entry c.in_ok-path.path.items =
    subst (λ (es : List BundleEntry). IsPathAt es n c.in_ok-path.path.items) c.deref-in-loop-place.ensures.value c.in_ok-path.ensures.path entry
    (slice_get_read entries (length entries) n entry refl inside c.index-entry.ensures) in
    let line = line_of_entry entries entry c.in_ok-path.path.items c.deref-in-loop-place-2.result.now c.in_ok-line.line.items shown is c.deref-in-loop-place-2.ensures.value c.in_ok-line.ensures c.deref-in-loop-place-3.ensures.value in
    record {
      told =
          text_more c.args.bundle.now n entry shown old c.push_line-in-loop-place.new.text.items c.loop-place.invariant.told inside c.index-entry.ensures line
          (c.in_ok-push_line-2.ensures.line ∙ ap (λ (s : List ℕ). old ++ s ++ shown) c.separator.ensures);
      within = c.in_ok-push_line-2.ensures.within;
    }

pub returns-in_err-extend_from_slice-clause-fault : goal.returns-in_err-extend_from_slice-clause-fault
returns-in_err-extend_from_slice-clause-fault c = memory_fault c.args.bundle.now c.from_residual-in_err-extend_from_slice.result c.from_residual-in_err-extend_from_slice.ensures.1
