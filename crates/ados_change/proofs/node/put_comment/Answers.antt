use Rattle.ados_change.proofs.Common.{◌+◌, List, ℕ, length, subst, HasText, SameBut, some_in, Summed}
use Rattle.ados_change.proofs.Cases.{commented_stands}
use Rattle.ados_change.proofs.node.put_comment.Goals as goal

pub returns-clause-stands : goal.returns-clause-stands
returns-clause-stands c = λ t s.
    let entry = c.requires.key t s in
    let n = some_in (t.nodes c.args.key) entry.0 in
    let text = subst (HasText c.settle_text.new.image c.args.key 328) c.bytes.ensures.value c.settle_text.ensures.text in
    commented_stands c.args.image.now c.settle_text.new.image t s c.args.key n.0 n.1 c.settle_text.ensures.sum c.args.comment.now c.bytes.ensures.valid entry.1
    (subst (λ (text : List ℕ). SameBut (Summed c.args.key 328 (329 + length text)) c.args.image.now c.settle_text.new.image) c.bytes.ensures.value c.settle_text.ensures.rest) text
