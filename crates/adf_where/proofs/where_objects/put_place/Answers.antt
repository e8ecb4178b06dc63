use Rattle.adf_where.proofs.Common.{append_assoc, ◌∙◌, on_ok_weaker}
use Rattle.adf_where.proofs.where_objects.put_place.Goals as goal

pub returns-clause-tokens : goal.returns-clause-tokens
returns-clause-tokens c =
    on_ok_weaker c.put_number-4.result
    (λ last. last ∙ simp (c.in_ok-put_number-3.ensures.tokens, c.in_ok-put_number-2.ensures.tokens, c.in_ok-put_number.ensures.tokens, c.from.ensures, c.from-2.ensures, c.cylinder_of.ensures, c.from-3.ensures, c.head_of.ensures, c.from-4.ensures, c.sector_of.ensures, append_assoc))
    c.put_number-4.ensures.tokens
