use Rattle.std.proofs.Common.{◌≡◌, ℕ, Bool, List, ◌∷◌, map, sym, ap, ◌∙◌, refl}
use Rattle.std.specs.Prelude.{◌||◌}
use Rattle.std.specs.FinMap as numbered
use Rattle.std.specs.List.{list_any}
use Rattle.std.proofs.lemmas.Fn.{says_at}
use Rattle.ados_handler.proofs.Tables.{values_are}
use Rattle.ados_handler.proofs.table.Table.any.Goals as goal

-- the first remaining entry, and the others
first_then : {X : Type 0} (passes : X → Bool) (b : Bool) (first : ℕ × X) (left rest : List (ℕ × X)) → left ≡ first ∷ rest → b ≡ passes first.1
    → list_any passes (map (λ e. e.1) left) ≡ (b || list_any passes (map (λ e. e.1) rest))
first_then {X} passes b first left rest split is =
    ap (λ (entries : List (ℕ × X)). list_any passes (map (λ e. e.1) entries)) split ∙ ap (λ (a : Bool). a || list_any passes (map (λ e. e.1) rest)) (sym is)

pub loop-value-init : goal.loop-value-init
loop-value-init g c = (
  tt,
  tt,
  λ passes is.
      ap (λ l. list_any passes (map (λ e. e.1) l)) (c.into_iter-value-iterator.ensures.into_iter_gives ∙ c.iter-value-items.ensures.rest)
      ∙ ap (list_any passes) (sym (values_are c.self.inside.slab)) ∙ ap (λ s. list_any passes (numbered.values s.held)) c.self.view_is,
)

pub loop-value-preserved : goal.loop-value-preserved
loop-value-preserved g c = (
  tt,
  tt,
  λ passes is.
      sym (first_then passes _ _ _ _ c.in-Some.ensures.steps (sym c.if-test.false ∙ is c.in-Some.value.now c.test.result (says_at g.F.Fn c.test.ensures refl)))
      ∙ c.loop-value.invariant.2 passes is,
)

pub returns : goal.returns
returns g c = λ passes is. ap (λ l. list_any passes (map (λ e. e.1) l)) (sym c.in-None.ensures.steps.0) ∙ c.loop-value.invariant.2 passes is

pub returns-then-test : goal.returns-then-test
returns-then-test g c = λ passes is.
    sym (first_then passes _ _ _ _ c.in-Some.ensures.steps (sym c.if-test.true ∙ is c.in-Some.value.now c.test.result (says_at g.F.Fn c.test.ensures refl)))
    ∙ c.loop-value.invariant.2 passes is
