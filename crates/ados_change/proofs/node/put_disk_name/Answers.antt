use Rattle.ados_change.proofs.Common.{ℕ, ◌+◌, List, length, refl, ap, sym, subst, ◌∙◌, block_sum, HasText, SameBut, root, root_is, Summed}
use Rattle.ados_change.proofs.Cases.{named_stands}
use Rattle.ados_change.proofs.node.put_disk_name.Goals as goal

pub returns-clause-stands : goal.returns-clause-stands
returns-clause-stands c = λ t s.
    let at_root = c.root-root.ensures ∙ root_is c.args.image.now t s in
    let text = subst (λ (b : ℕ). HasText c.settle_text.new.image b 432 c.args.name.now) at_root (subst (HasText c.settle_text.new.image c.root-root.result 432) c.bytes.ensures.value c.settle_text.ensures.text) in
    let rest = subst (λ (b : ℕ). SameBut (Summed b 432 (433 + length c.args.name.now)) c.args.image.now c.settle_text.new.image) at_root
    (subst (λ (text : List ℕ). SameBut (Summed c.root-root.result 432 (433 + length text)) c.args.image.now c.settle_text.new.image) c.bytes.ensures.value c.settle_text.ensures.rest) in
    named_stands c.args.image.now c.settle_text.new.image t s (root t) s.proper.root_node.0 s.proper.root_node.1
    (ap (block_sum c.settle_text.new.image) (sym at_root) ∙ c.settle_text.ensures.sum) c.args.name.now c.bytes.ensures.valid refl rest text
