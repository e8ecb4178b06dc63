use Rattle.adf_export.proofs.Common.{ℕ, ◌++◌, List, length, drop, append_assoc, ap, ◌∙◌, codes, take_rest}
use Rattle.adf_export.proofs.Padding.{blanks}
use Rattle.adf_export.proofs.lines.push_right.Goals as goal

pub returns : goal.returns
returns c =
    let blank = take_rest (codes "        ") c.min.result ∙ ap (λ (n : ℕ). drop n (codes "        ")) c.min.ensures ∙ blanks (length c.args.word.now) in
    let first = c.in_ok-extend_from_slice.ensures.items ∙ ap (λ (l : List ℕ). c.args.text.now.items ++ l) blank in
    c.in_ok-extend_from_slice-2.ensures.items ∙ ap (λ (l : List ℕ). l ++ c.args.word.now) first ∙ append_assoc c.args.text.now.items _ c.args.word.now
