use Rattle.std.proofs.Common.{◌≡◌, ◌++◌, ℕ, List, length, sym, ap, ◌∙◌, rules}
use Rattle.std.specs.Borrow.{Bor}
use Rattle.adf_archive.specs.NameLists.{names_in}
use Rattle.adf_archive.specs.steps.Adding.{name_or_none}
use Rattle.adf_archive.proofs.Naming.{parts_all, parts_more}
use Rattle.adf_archive.proofs.Searching.{texts}
use Rattle.adf_archive.proofs.name_list.listed_names.Goals as goal

pub loop-rest-init : goal.loop-rest-init
loop-rest-init c = ap (λ (names : List (Bor (List ℕ))). texts names ++ names_in c.args.null c.args.list.now) (sym c.new-names.ensures.items)

pub loop-rest-preserved : goal.loop-rest-preserved
loop-rest-preserved c =
    parts_more (names_in c.args.null c.args.list.now) (texts c.loop-rest.names.items) _ (name_or_none c.first_part.result.0.now) (names_in c.args.null c.first_part.result.1.now)
    (c.loop-rest.invariant ∙ ap (λ (names : List (List ℕ)). texts c.loop-rest.names.items ++ names) c.first_part.ensures.names) c.in_ok-push_name.ensures

pub returns : goal.returns
returns c =
    let nothing : length c.loop-rest.rest.now ≡ 0 = search rules in
    parts_all c.args.null c.args.list.now c.loop-rest.rest.now (texts c.loop-rest.names.items) c.loop-rest.invariant nothing
