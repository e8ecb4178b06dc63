use Rattle.adf_where.proofs.Common.{ℕ, ◌-◌, length, Option, option_map, sym, ap, ◌∙◌, subst, Content, Node, bytes_in, content_in, Owner, Owns}
use Rattle.adf_where.proofs.Belonging.{data_span}
use Rattle.adf_where.proofs.owned.span_of.Goals as goal

pub returns-in-Data : goal.returns-in-Data
returns-in-Data c = λ t s.
    let owns = subst (λ (owner : Owner). Owns c.args.volume.now.image t c.args.block owner) c.in-Data.is (c.requires t s) in
    let n = content_in (t.nodes c.in-Data.file) (Content.File owns.0.0) owns.0.1 in
    let size = c.from-size.ensures ∙ c.size.ensures t n.0 s n.1 ∙ sym (ap (λ (o : Option Node). length (bytes_in (option_map (λ (node : Node). node.content) o))) n.1) in
    data_span t c.args.owner c.in-Data.file c.in-Data.k c.from.result _ _ _ c.in-Data.is c.from.ensures (c.from-room.ensures ∙ c.room_of.ensures.value t s) size
    (c.saturating_sub.ensures ∙ ap (λ (last : ℕ). last - 1) c.min.ensures)
