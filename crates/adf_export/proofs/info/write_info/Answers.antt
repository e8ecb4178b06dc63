use Rattle.adf_export.proofs.Common.{OnErr, List, ℕ, ◌∙◌, subst, WritesFront, at_any_err}
use Rattle.adf_io.proofs.Prefixes.{writes_nothing}
use Rattle.adf_export.proofs.info.write_info.Goals as goal

pub returns-in_err-text-clause-front : goal.returns-in_err-text-clause-front
returns-in_err-text-clause-front g c = at_any_err _ (writes_nothing _ _)

pub returns-clause-front : goal.returns-clause-front
returns-clause-front g c =
    subst (λ (text : List ℕ). OnErr c.write_text.result (WritesFront (g.W.Write.contents c.args.writer.now) (g.W.Write.contents c.write_text.new.writer) text))
    (c.as_slice.ensures.value ∙ c.in_ok-text.ensures) c.write_text.ensures.front
