use Rattle.adf_where.proofs.Common.{◌≡◌, ap, ◌∙◌, IfOk-weaker, Stands, Tree, IsWhereOf, own_from, own_text}
use Rattle.adf_where.proofs.own_blocks.where_path_text.Goals as goal

pub returns : goal.returns
returns c =
    let blocks = c.deref-2.ensures.value ∙ c.in_ok-blocks.ensures ∙ ap (own_from c.args.key 0) c.deref.ensures.value in
    IfOk-weaker c.own_text.result (λ text. text.items ≡ own_text c.args.json c.deref-2.result.now)
    (λ text. (t : Tree) → Stands c.args.volume.now.image t → IsWhereOf c.args.json c.args.volume.now.image t c.args.key text.items)
    (λ text is t s. (c.in_ok-owners.owners.items, c.in_ok-owners.ensures t s, is ∙ ap (own_text c.args.json) blocks)) c.own_text.ensures
