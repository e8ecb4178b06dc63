use Rattle.ados_name.proofs.Common.{ℕ, Option, Some, None, List, [], ◌∷◌, subst, ◌∙◌, IsLastByte, is_in, is_separator}
use Rattle.ados_name.proofs.PathLemmas.{drop-behind, last_name-plain, take-behind}
use Rattle.ados_name.proofs.SeparatorLemmas.{is_in-separators}
use Rattle.ados_name.proofs.path.split_last.Goals as goal

last-separator : (path : List ℕ) (r : Option ℕ) → IsLastByte (is_in (47 ∷ 58 ∷ [])) path r → IsLastByte is_separator path r
last-separator path r found = subst (λ test. IsLastByte test path r) is_in-separators found

pub returns-in-Some-clause-front : goal.returns-in-Some-clause-front
returns-in-Some-clause-front c = c.split_at.ensures.front ∙ take-behind c.args.path.now (Some c.in-Some.at) (last-separator _ (Some c.in-Some.at) c.in-Some.ensures)

pub returns-in-Some-clause-last : goal.returns-in-Some-clause-last
returns-in-Some-clause-last c = c.split_at.ensures.back ∙ drop-behind c.args.path.now (Some c.in-Some.at) (last-separator _ (Some c.in-Some.at) c.in-Some.ensures)

pub returns-in-Some-clause-plain : goal.returns-in-Some-clause-plain
returns-in-Some-clause-plain c = last_name-plain c.args.path.now (Some c.in-Some.at) (last-separator _ (Some c.in-Some.at) c.in-Some.ensures)

pub returns-in-None-clause-front : goal.returns-in-None-clause-front
returns-in-None-clause-front c = c.split_at-in-None.ensures.front ∙ take-behind c.args.path.now None (last-separator _ None c.in-None.ensures)

pub returns-in-None-clause-last : goal.returns-in-None-clause-last
returns-in-None-clause-last c = c.split_at-in-None.ensures.back ∙ drop-behind c.args.path.now None (last-separator _ None c.in-None.ensures)

pub returns-in-None-clause-plain : goal.returns-in-None-clause-plain
returns-in-None-clause-plain c = last_name-plain c.args.path.now None (last-separator _ None c.in-None.ensures)
