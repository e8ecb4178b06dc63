use Rattle.std.proofs.Common.{ℕ, List, [], ◌∷◌, subst}
use Rattle.adf_archive.specs.steps.Adding.{AddsOwn}
use Rattle.adf_archive.proofs.name_list.add_name.Goals as goal

pub returns-then-is_hosts : goal.returns-then-is_hosts
returns-then-is_hosts g c =
    (_, c.in_ok-text.ensures, subst (λ (path : List ℕ). AddsOwn c.args.found.now c.add_word.new.self (path ∷ [])) c.as_str.ensures.value c.in_ok-add_word.ensures)

pub returns : goal.returns
returns g c = (_, c.in_ok-text.ensures, c.in_ok-add.ensures)
