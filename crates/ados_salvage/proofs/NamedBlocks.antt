-- Blocks that others name, marked one holder and one long after the other.
use Rattle.ados_salvage.proofs.AccountCommon.{Adds, HasNoMarks, block_count}
use Rattle.ados_salvage.proofs.Marking.{adds_as, adds_both, adds_none}
use Rattle.ados_salvage.specs.Doubtful.{IsNamedIn, NamesEntries}
use Rattle.ados_salvage.specs.Lost.{IsNamed}
use Rattle.ados_salvage.specs.steps.Mending.{AreMarksFor, NamesAt, NamesSome}
use Rattle.ados_salvage.proofs.Naming.{place_below}
use Rattle.std.proofs.lemmas.Bool.{cases_eq}
use Rattle.std.proofs.Common.{ℕ, ◌+◌, ◌<◌, ◌≤◌, ◌≡◌, ◌⊎◌, inl, inr, List, Bool, arith, subst, ◌∙◌}

-- one of the first has the property
abbrev pub Upto : (ℕ → ℕ → Type 0) → ℕ → ℕ → Type 0
Upto P n b = (k : ℕ) × (k < n) × P k b

pub adds_zero : (P : ℕ → ℕ → Type 0) (n : ℕ) (marks : List Bool) → n ≡ 0 → Adds (Upto P n) marks marks
adds_zero P n marks is = adds_none (Upto P n) marks (λ b l p. absurd (omega (arith, p.1, is)))

pub adds_next : (P : ℕ → ℕ → Type 0) (n : ℕ) (old mid new : List Bool) → Adds (Upto P n) old mid → Adds (P n) mid new → Adds (Upto P (n + 1)) old new
adds_next P n old mid new a more = adds_as (λ b. Upto P n b ⊎ P n b) (Upto P (n + 1)) old new
    (λ b either. elim either [
      | inl before ↦ (before.0, omega (arith, before.1), before.2)
      | inr here ↦ (n, omega arith, here)
    ])
    (λ b upto. elim (cases_eq upto.0 n) [
      | inl is ↦ inr (subst (λ (k : ℕ). P k b) is upto.2)
      | inr ne ↦ inl (upto.0, omega (arith, upto.1, ne), upto.2)
    ])
    (adds_both (Upto P n) (P n) old mid new a more)

-- all longs of a block that can name entries
pub adds_names : (out image : List ℕ) (holder : ℕ) (old new : List Bool) → NamesEntries out image holder → Adds (Upto (NamesAt image holder) 128) old new
    → Adds (NamesSome out image holder) old new
adds_names out image holder old new names = adds_as (Upto (NamesAt image holder) 128) (NamesSome out image holder) old new
    (λ b upto. (names, (upto.0, upto.2)))
    (λ b some. (some.1.0, place_below image some.1.1.0 holder some.1.0 some.1.1.1, some.1.1))

-- the marks of all blocks that are named
pub marks_named : (out image : List ℕ) (n : ℕ) (old new : List Bool) → HasNoMarks image old → block_count image ≤ n → ((holder : ℕ) → NamesEntries out image holder → holder < block_count image)
    → Adds (Upto (NamesSome out image) n) old new → AreMarksFor (IsNamed out image) (block_count image) new
marks_named out image n old new none all inside a = record {
  size = a.size ∙ none.size;
  decided = λ b l. (
    (λ is. elim (a.only b is) [
      | inl was ↦ absurd (none.none b was)
      | inr upto ↦
          (let some : NamesSome out image upto.0 b = upto.2 in
          (some.1.1.0, record { holder = upto.0; at = some.1.0; accepted = some.0; place = some.1.1.1; named = some.1.1.2 }))
    ]),
    (λ named.
        let it : IsNamedIn out image named.0 b = named.1 in
        a.added b (omega (arith, l, none.size)) (it.holder, omega (arith, inside it.holder it.accepted, all), (it.accepted, (it.at, (named.0, it.place, it.named))))),
  );
}
