use Rattle.ados_change.proofs.Common.{ℕ, refl, ap, sym, subst, ◌∙◌, block_sum, SameBut, root, date_at, root_is, Summed}
use Rattle.ados_change.proofs.Cases.{stamped_stands}
use Rattle.ados_change.proofs.node.stamp_disk.Goals as goal

pub returns-clause-stands : goal.returns-clause-stands
returns-clause-stands c = λ t s.
    let at_root = c.root-root.ensures ∙ root_is c.args.image.now t s in
    let sum = ap (block_sum c.args.image.now) at_root ∙ (s.nodes (root t) s.proper.root_node.0 s.proper.root_node.1).sum in
    stamped_stands c.args.image.now c.settle_date.new.image t s (root t) s.proper.root_node.0 s.proper.root_node.1
    (ap (block_sum c.settle_date.new.image) (sym at_root) ∙ c.settle_date.ensures.sum sum) c.args.moment refl
    (subst (λ (b : ℕ). SameBut (Summed b 472 484) c.args.image.now c.settle_date.new.image) at_root c.settle_date.ensures.rest)
    (ap (λ (b : ℕ). date_at c.settle_date.new.image b 118) (sym at_root) ∙ c.settle_date.ensures.date)
