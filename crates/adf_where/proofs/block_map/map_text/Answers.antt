use Rattle.adf_where.proofs.Common.{◌≡◌, ap, ap₂, ◌∙◌, IfOk-weaker, Stands, Tree}
use Rattle.adf_where.specs.BlockMap.{IsMap, map_of, owner_letters}
use Rattle.adf_where.proofs.block_map.map_text.Goals as goal

pub returns : goal.returns
returns c =
    let unread = c.args.unread.now in
    let owners = c.in_ok-owners.owners.items in
    let marks = c.deref-3.ensures.value ∙ c.in_ok-letters.ensures ∙ ap (owner_letters unread) c.deref.ensures.value in
    IfOk-weaker c.form_text.result
    (λ text. text.items ≡ map_of c.args.form unread c.deref-3.result.now c.deref-2.result.now)
    (λ text. (t : Tree) → Stands c.args.volume.now.image t → IsMap c.args.form unread c.args.volume.now.image t text.items)
    (λ text is t stands. (owners, c.in_ok-owners.ensures t stands, is ∙ ap₂ (map_of c.args.form unread) marks c.deref-2.ensures.value))
    c.form_text.ensures
