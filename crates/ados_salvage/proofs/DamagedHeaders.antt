-- The headers of the files that are not whole, as a set, and the extension blocks that name one of them.
use Rattle.std.proofs.Common.{◌≡◌, ◌≢◌, ℕ, ◌+◌, ◌<◌, ◌≤◌, ◌⊎◌, inl, inr, Bool, true, false, MatchBool, List, [], ◌∷◌, ◌++◌, length, take, get_or, refl, sym, ap, ◌∙◌, subst, arith}
use Rattle.std.specs.Prelude.{◌↔◌, IsTrue}
use Rattle.std.specs.BTreeMap.{is_at}
use Rattle.std.specs.BTreeSet.{BTreeSet, IsEmpty, Updates, contains}
use Rattle.std.specs.List.{list_any}
use Rattle.std.specs.Ordering.{nat_cmp}
use Rattle.std.proofs.lemmas.Bool.Decides.{nat_tests}
use Rattle.ados_salvage.specs.declared.salvaged.Salvaged.{Salvaged}
use Rattle.ados_salvage.specs.Loose.{IsLooseExtension}
use Rattle.ados_salvage.specs.steps.Accounting.{HasExactly, IsDamagedHeader, IsLinkedOf, IsLooseOf, IsLooseOfAny}
use Rattle.ados_salvage.proofs.AccountCommon.{cases_eq, parent_key, take_more, Adds, IsDamagedFile, IsOfDamaged, OfOne}
use Rattle.ados_salvage.proofs.Marking.{adds_as, adds_both, adds_none, of_fewer, of_more, of_none}

-- no header is in an empty set
pub has_none : (entries : List Salvaged) (i : ℕ) (headers : BTreeSet ℕ) → i ≡ 0 → IsEmpty headers → HasExactly (OfOne IsDamagedHeader (take i entries)) headers
has_none entries i headers none empty = record {
  only = λ n is. let both : false ≡ true = sym (ap (list_any (is_at (nat_cmp n))) empty) ∙ is in absurd (cc both);
  all = λ n o. absurd (of_none IsDamagedHeader entries i none n o);
}

-- another number
at_other : (k n : ℕ) → n ≢ k → is_at (nat_cmp k) n ≡ false
at_other k n other = grind (arith, nat_tests)

-- the header of one more entry
module _ (entries : List Salvaged) (i : ℕ) (entry : Salvaged) (l : i < length entries) (is : entry ≡ get_or entries i entry) (old : BTreeSet ℕ) (h : HasExactly (OfOne IsDamagedHeader (take i entries)) old) where
  grown : take (i + 1) entries ≡ take i entries ++ entry ∷ []
  grown = take_more entries i entry l ∙ ap (λ (e : Salvaged). take i entries ++ e ∷ []) (sym is)

  more : (n : ℕ) → OfOne IsDamagedHeader (take i entries) n ⊎ IsDamagedHeader entry n → OfOne IsDamagedHeader (take (i + 1) entries) n
  more n o = subst (λ (es : List Salvaged). OfOne IsDamagedHeader es n) (sym grown) (of_more IsDamagedHeader (take i entries) entry n o)

  fewer : (n : ℕ) → OfOne IsDamagedHeader (take (i + 1) entries) n → OfOne IsDamagedHeader (take i entries) n ⊎ IsDamagedHeader entry n
  fewer n o = of_fewer IsDamagedHeader (take i entries) entry n (subst (λ (es : List Salvaged). OfOne IsDamagedHeader es n) grown o)

  pub has_more : (new : BTreeSet ℕ) → IsDamagedFile entry.state → Updates nat_cmp old new entry.header true → HasExactly (OfOne IsDamagedHeader (take (i + 1) entries)) new
  has_more new damaged updates = record {
    only = λ n there. elim (cases_eq n entry.header) [
      | inl e ↦ more n (inr (damaged, e))
      | inr other ↦ more n (inl (h.only n (sym (updates.2 n (at_other entry.header n other)) ∙ there)))
    ];
    all = λ n o. elim (cases_eq n entry.header) [
      | inl e ↦ ap (contains nat_cmp new) e ∙ updates.1
      | inr other ↦ elim (fewer n o) [
        | inl before ↦ updates.2 n (at_other entry.header n other) ∙ h.all n before
        | inr here ↦ absurd (other here.1)
      ]
    ];
  }

  pub has_same : ¬ IsDamagedFile entry.state → HasExactly (OfOne IsDamagedHeader (take (i + 1) entries)) old
  has_same whole = record {
    only = λ n there. more n (inl (h.only n there));
    all = λ n o. elim (fewer n o) [
      | inl before ↦ h.all n before
      | inr here ↦ absurd (whole here.0)
    ];
  }

-- whether the header that a block names is one of them
module _ (image : List ℕ) (headers : BTreeSet ℕ) (header block : ℕ) (named : header ≡ parent_key image block) where
  pub names_none : contains nat_cmp headers header ≡ false → ¬ IsLooseOfAny image headers block
  names_none none (other, there, loose) =
      let same : header ≡ other = named ∙ loose.looks.of_file in
      let both : false ≡ true = sym none ∙ ap (contains nat_cmp headers) same ∙ there in
      absurd (cc both)

  pub names_by : contains nat_cmp headers header ≡ true → (is : Bool) → (IsTrue is ↔ IsLooseExtension image header block) → MatchBool is (IsLooseOfAny image headers block) (¬ IsLooseOfAny image headers block)
  names_by there true decides = (header, there, decides.0 refl)
  names_by there false decides = λ any.
      let same : any.0 ≡ header = sym any.2.looks.of_file ∙ sym named in
      let both : false ≡ true = decides.1 (subst (λ (h : ℕ). IsLooseExtension image h block) same any.2) in
      absurd (cc both)

-- a property of the blocks below this one
abbrev pub Below : (ℕ → Type 0) → ℕ → ℕ → Type 0
Below P n block = (block < n) × P block

module _ (P : ℕ → Type 0) (n : ℕ) (old marks : List Bool) where
  pub adds_first : n ≡ 0 → Adds (Below P n) marks marks
  adds_first none = adds_none (Below P n) marks (λ b l h. omega (arith, h.0, none))

  module _ (a : Adds (Below P n) old marks) where
    pub adds_here : (new : List Bool) → P n → Adds (λ b. b ≡ n) marks new → Adds (Below P (n + 1)) old new
    adds_here new p c = adds_as (λ b. Below P n b ⊎ (b ≡ n)) (Below P (n + 1)) old new
        (λ b h. elim h [
          | inl below ↦ (omega (arith, below.0), below.1)
          | inr e ↦ (omega (arith, e), subst P (sym e) p)
        ])
        (λ b h. elim (cases_eq b n) [
          | inl e ↦ inr e
          | inr other ↦ inl (omega (arith, h.0, other), h.1)
        ])
        (adds_both (Below P n) (λ b. b ≡ n) old marks new a c)

    pub adds_not_here : ¬ P n → Adds (Below P (n + 1)) old marks
    adds_not_here none = adds_as (Below P n) (Below P (n + 1)) old marks
        (λ b h. (omega (arith, h.0), h.1))
        (λ b h. elim (cases_eq b n) [
          | inl e ↦ absurd (none (subst P e h.1))
          | inr other ↦ (omega (arith, h.0, other), h.1)
        ])
        a

    pub adds_every : length old ≤ n → Adds P old marks
    adds_every all = record {
      size = a.size;
      kept = a.kept;
      added = λ b l p. a.added b l (omega (arith, l, all), p);
      only = λ b is. elim (a.only b is) [
        | inl before ↦ inl before
        | inr h ↦ inr h.1
      ];
    }

-- the extension blocks that name one of the headers are those of the entries with these headers
pub adds_loose : (image : List ℕ) (entries : List Salvaged) (headers : BTreeSet ℕ) (old new : List Bool) → HasExactly (OfOne IsDamagedHeader entries) headers → Adds (IsLooseOfAny image headers) old new
    → Adds (OfOne (IsLooseOf image) entries) old new
adds_loose image entries headers old new h a = adds_as (IsLooseOfAny image headers) (OfOne (IsLooseOf image) entries) old new
    (λ b any.
    let of : OfOne IsDamagedHeader entries any.0 = h.only any.0 any.1 in
    record { one = of.one; listed = of.listed; has = (of.has.0, subst (λ (k : ℕ). IsLooseExtension image k b) of.has.1 any.2) })
    (λ b o. (o.one.header, h.all o.one.header (record { one = o.one; listed = o.listed; has = (o.has.0, refl) }), o.has.1))
    a

-- both kinds of extension blocks of the files that are not whole
pub adds_extensions : (image : List ℕ) (entries : List Salvaged) (old mid new : List Bool) → Adds (OfOne (IsLinkedOf image) entries) old mid → Adds (OfOne (IsLooseOf image) entries) mid new
    → Adds (OfOne (IsOfDamaged image) entries) old new
adds_extensions image entries old mid new a c = adds_as (λ b. OfOne (IsLinkedOf image) entries b ⊎ OfOne (IsLooseOf image) entries b) (OfOne (IsOfDamaged image) entries) old new
    (λ b h. elim h [
      | inl o ↦ record { one = o.one; listed = o.listed; has = (o.has.0, inl o.has.1) }
      | inr o ↦ record { one = o.one; listed = o.listed; has = (o.has.0, inr o.has.1) }
    ])
    (λ b o. elim o.has.1 [
      | inl linked ↦ inl (record { one = o.one; listed = o.listed; has = (o.has.0, linked) })
      | inr loose ↦ inr (record { one = o.one; listed = o.listed; has = (o.has.0, loose) })
    ])
    (adds_both (OfOne (IsLinkedOf image) entries) (OfOne (IsLooseOf image) entries) old mid new a c)
