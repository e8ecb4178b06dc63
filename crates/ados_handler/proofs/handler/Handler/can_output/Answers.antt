use Rattle.std.proofs.Common.{sym, ◌∙◌, subst}
use Rattle.ados_handler.proofs.Common.{Stands, Shown, child_is_key}
use Rattle.ados_handler.proofs.handler.Handler.can_output.Goals as goal

pub can_empty-requires : goal.can_empty-requires
can_empty-requires c t stands =
    let stood = subst (λ (v : Shown). Stands v.image t) c.child.ensures.same stands in
    child_is_key t stood.proper c.in-Ok.found.0 c.in-Ok.found.1 c.in-Some.key (sym (c.child.ensures.child t stood) ∙ c.in-Some.is)
