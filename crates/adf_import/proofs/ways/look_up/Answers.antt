use Rattle.std.proofs.Common.{◌≡◌, ◌==◌, ℕ, Option, List, length, refl, sym, ap, ◌∙◌, subst, arith, take}
use Rattle.std.specs.Prelude.{IfSome}
use Rattle.ados_name.specs.Name.{IsName, front}
use Rattle.adf_import.specs.declared.ways.Reached.{Reached}
use Rattle.adf_import.specs.steps.Reached.{IsReached}
use Rattle.adf_import.proofs.Reaching.{child_found, child_missing, parent_found}
use Rattle.adf_import.proofs.ways.look_up.Goals as goal

pub returns-in-Some-parent-clause-found : goal.returns-in-Some-parent-clause-found
returns-in-Some-parent-clause-found c =
    let counted : length (front (take c.args.at c.args.path.now)) ≡ c.in-Some.from.len = ap length (sym c.split_last.ensures.front) ∙ omega (arith, c.if-before-from.false) in
    parent_found c.args.volume.now.image c.args.path.now c.args.at c.in-Some.from (subst (λ (o : Option Reached). IfSome o (IsReached c.args.volume.now.image c.args.path.now c.args.at)) c.in-Some.is c.requires.known) c.requires.at c.requires.slash counted c.split_last.ensures.plain
    (c.if-is_empty.ensures ∙ ap (λ (xs : List ℕ). length xs == 0) c.split_last.ensures.last) c.in-Some-parent.key c.in-Some-parent.ensures.key c.in-Some-parent.ensures.parent

pub returns-in-Some-child-clause-found : goal.returns-in-Some-child-clause-found
returns-in-Some-child-clause-found c =
    let counted : length (front (take c.args.at c.args.path.now)) ≡ c.in-Some.from.len = ap length (sym c.split_last.ensures.front) ∙ omega (arith, c.if-before-from.false) in
    child_found c.args.volume.now.image c.args.path.now c.args.at c.in-Some.from (subst (λ (o : Option Reached). IfSome o (IsReached c.args.volume.now.image c.args.path.now c.args.at)) c.in-Some.is c.requires.known) c.requires.at c.requires.slash counted c.split_last.ensures.plain
    (c.if-is_empty.ensures ∙ ap (λ (xs : List ℕ). length xs == 0) c.split_last.ensures.last) c.if-is_file.ensures.file c.in-Ok.name (c.in-Ok.ensures.ok ∙ c.split_last.ensures.last) c.in-Some-child.key
    c.in-Some-child.ensures.child

pub returns-in-None-child-clause-found : goal.returns-in-None-child-clause-found
returns-in-None-child-clause-found c =
    let counted : length (front (take c.args.at c.args.path.now)) ≡ c.in-Some.from.len = ap length (sym c.split_last.ensures.front) ∙ omega (arith, c.if-before-from.false) in
    child_missing c.args.volume.now.image c.args.path.now c.args.at c.in-Some.from (subst (λ (o : Option Reached). IfSome o (IsReached c.args.volume.now.image c.args.path.now c.args.at)) c.in-Some.is c.requires.known) c.requires.at c.requires.slash counted c.split_last.ensures.plain
    (c.if-is_empty.ensures ∙ ap (λ (xs : List ℕ). length xs == 0) c.split_last.ensures.last) c.if-is_file.ensures.file c.in-Ok.name (c.in-Ok.ensures.ok ∙ c.split_last.ensures.last)
    (subst (λ (xs : List ℕ). IsName xs) (sym c.in-Ok.ensures.ok) (c.in-Ok.ensures.valid.0 refl)) (c.if-is_file.ensures.directory refl) c.in-None-child.ensures.child
