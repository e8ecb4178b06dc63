use Rattle.ados_check.proofs.Common.{inl, inr, List, ℕ, refl, sym, subst, ◌≡◌, ◌<◌, length, false, slice_index, text_at, NAME_BYTE, is_separator, IsFirstSeparator, IsNameEvidence}
use Rattle.ados_check.specs.Evidence.IsNameEvidence.{by_length, by_separator}
use Rattle.ados_check.proofs.NameLemmas.{none_in, separator_in}
use Rattle.ados_check.proofs.naming.name_evidence.Goals as goal

pub returns-then-has_wrong_length-clause-broken : goal.returns-then-has_wrong_length-clause-broken
returns-then-has_wrong_length-clause-broken c = ((λ _. inl (c.if-has_wrong_length.ensures.0 refl)), (λ _. refl))

pub returns-then-has_wrong_length-clause-evidence : goal.returns-then-has_wrong_length-clause-evidence
returns-then-has_wrong_length-clause-evidence c = subst (IsNameEvidence c.args.source.now.bytes c.args.block) (sym c.of.ensures) (by_length (c.if-has_wrong_length.ensures.0 refl))

pub returns-in-None-clause-broken : goal.returns-in-None-clause-broken
returns-in-None-clause-broken c =
    let plain = subst (λ (xs : List ℕ). (k : ℕ) → k < length xs → is_separator (slice_index xs k) ≡ false) c.short_text.ensures.text c.in-None.ensures in (
      λ t. absurd (cc t),
      λ h. elim h [
        | inl wrong ↦ absurd (let t = c.if-has_wrong_length.ensures.1 wrong in cc t)
        | inr found ↦ absurd (none_in (text_at c.args.source.now.bytes c.args.block NAME_BYTE) plain found)
      ],
    )

pub returns-in-Some-clause-broken : goal.returns-in-Some-clause-broken
returns-in-Some-clause-broken c =
    let first = subst (λ (xs : List ℕ). IsFirstSeparator xs c.in-Some.place) c.short_text.ensures.text c.in-Some.ensures in
    ((λ _. inr (separator_in (text_at c.args.source.now.bytes c.args.block NAME_BYTE) c.in-Some.place first)), (λ _. refl))

pub returns-in-Some-clause-evidence : goal.returns-in-Some-clause-evidence
returns-in-Some-clause-evidence c =
    let first = subst (λ (xs : List ℕ). IsFirstSeparator xs c.in-Some.place) c.short_text.ensures.text c.in-Some.ensures in
    subst (IsNameEvidence c.args.source.now.bytes c.args.block) (sym c.of-in-Some.ensures)
    (by_separator (λ wrong. let t = c.if-has_wrong_length.ensures.1 wrong in cc t) first)
