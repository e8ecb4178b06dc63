use Rattle.adf_where.proofs.Common.{◌≡◌, ap, ◌∙◌, IfOk-weaker}
use Rattle.adf_where.specs.FaultyMap.{IsFaultyMap, faulty_map_of}
use Rattle.adf_where.proofs.faulty_map.faulty_map_text.Goals as goal

pub returns : goal.returns
returns c =
    let unread = c.args.unread.now in
    let kind = c.args.reason.kind.now in
    let at = c.args.reason.block in
    IfOk-weaker c.faulty_text.result
    (λ text. text.items ≡ faulty_map_of c.args.form unread kind at c.deref-2.result.now)
    (λ text. IsFaultyMap c.args.form unread c.args.image.now kind at text.items)
    (λ text is. record {
      marks = c.in_ok-letters.letters.items;
      are_marks = c.in_ok-letters.ensures;
      text_is = is ∙ ap (faulty_map_of c.args.form unread kind at) c.deref-2.ensures.value;
    })
    c.faulty_text.ensures
