-- Lists of blocks that grow by the blocks of the volume with a property.
use Rattle.ados_salvage.proofs.KnownCommon.{◌≡◌, ℕ, ◌+◌, ◌<◌, ◌⊎◌, ◌↔◌, inl, inr, List, [], ◌∷◌, ◌++◌, Contains, Contains-append_left, Contains-push, Contains-push_cases, refl, sym, ap, ◌∙◌, subst, arith, cases_lt, long, pointer, pointer_count, min, NEXT_EXTENSION, InImage, HasFileType, GrowsBy, HeaderNames, IsHolderOf, IsSoundHeader, PointsTo}
use Rattle.ados_salvage.proofs.Leaving.{only_one}

-- one of these pointer blocks points to the block
abbrev pub AnyPointsTo : List ℕ → List ℕ → ℕ → Type 0
AnyPointsTo image holders block = (holder : ℕ) × Contains holders holder × PointsTo image holder block

-- one of the first pointers is the block
abbrev pub IsPointedBelow : List ℕ → ℕ → ℕ → ℕ → Type 0
IsPointedBelow image holder n block = (i : ℕ) × (i < n) × (pointer image holder i ≡ block)

module _ (image : List ℕ) where
  pub grows_none : (P : ℕ → Type 0) (xs : List ℕ) → ((block : ℕ) → InImage image block → ¬ P block) → GrowsBy image P xs xs
  grows_none P xs none block = (
    λ m. inl m,
    λ h. elim h [
      | inl m ↦ m
      | inr p ↦ absurd (none block p.0 p.1)
    ],
  )

  pub grows_one : (xs ys : List ℕ) (x : ℕ) → InImage image x → ys ≡ xs ++ x ∷ [] → GrowsBy image (λ block. block ≡ x) xs ys
  grows_one xs ys x inside e block = (
    λ m. elim (Contains-push_cases xs x block (subst (λ (zs : List ℕ). Contains zs block) e m)) [
      | inl was ↦ inl was
      | inr here ↦ inr (subst (InImage image) here inside, sym here)
    ],
    λ h. subst (λ (zs : List ℕ). Contains zs block) (sym e) (elim h [
      | inl was ↦ Contains-append_left xs (x ∷ []) block was
      | inr here ↦ subst (Contains (xs ++ x ∷ [])) (sym here.1) (Contains-push xs x)
    ]),
  )

  -- one growth after the other
  pub grows_both : (P Q R : ℕ → Type 0) (xs ys zs : List ℕ) → GrowsBy image P xs ys → GrowsBy image Q ys zs → ((block : ℕ) → R block ↔ (P block ⊎ Q block)) → GrowsBy image R xs zs
  grows_both P Q R xs ys zs first second both block = (to, from)
    where
      to : Contains zs block → Contains xs block ⊎ (InImage image block × R block)
      to m = elim ((second block).0 m) [
        | inl mid ↦ elim ((first block).0 mid) [
          | inl was ↦ inl was
          | inr p ↦ inr (p.0, (both block).1 (inl p.1))
        ]
        | inr q ↦ inr (q.0, (both block).1 (inr q.1))
      ]

      from : Contains xs block ⊎ (InImage image block × R block) → Contains zs block
      from (inl was) = (second block).1 (inl ((first block).1 (inl was)))
      from (inr r) = elim ((both block).0 r.1) [
        | inl p ↦ (second block).1 (inl ((first block).1 (inr (r.0, p))))
        | inr q ↦ (second block).1 (inr (r.0, q))
      ]

  -- one more pointer
  pub pointed_more : (holder n x : ℕ) → x ≡ pointer image holder n → (block : ℕ) → IsPointedBelow image holder (n + 1) block ↔ (IsPointedBelow image holder n block ⊎ (block ≡ x))
  pointed_more holder n x is block = (to, from)
    where
      to : IsPointedBelow image holder (n + 1) block → IsPointedBelow image holder n block ⊎ (block ≡ x)
      to (i, l, e) = elim (cases_lt i n) [
        | inl below ↦ inl (i, below, e)
        | inr above ↦ (let last : i ≡ n = omega (arith, l, above) in inr (sym e ∙ ap (pointer image holder) last ∙ sym is))
      ]

      from : IsPointedBelow image holder n block ⊎ (block ≡ x) → IsPointedBelow image holder (n + 1) block
      from (inl (i, l, e)) = (i, omega (arith, l), e)
      from (inr e) = (n, omega arith, sym is ∙ sym e)

  -- all pointers, and the link
  pub points_to : (holder n x : ℕ) → n ≡ min 72 (pointer_count image holder) → x ≡ long image holder NEXT_EXTENSION → (block : ℕ) → PointsTo image holder block ↔ (IsPointedBelow image holder n block ⊎ (block ≡ x))
  points_to holder n x all is block = (to, from)
    where
      to : PointsTo image holder block → IsPointedBelow image holder n block ⊎ (block ≡ x)
      to (inl (i, l, e)) = inl (i, omega (arith, l, all), e)
      to (inr e) = inr (sym e ∙ sym is)

      from : IsPointedBelow image holder n block ⊎ (block ≡ x) → PointsTo image holder block
      from (inl (i, l, e)) = inl (i, omega (arith, l, all), e)
      from (inr e) = inr (sym is ∙ sym e)

  -- the pointers of one more pointer block
  pub any_more : (holders : List ℕ) (holder : ℕ) (block : ℕ) → AnyPointsTo image (holders ++ holder ∷ []) block ↔ (AnyPointsTo image holders block ⊎ PointsTo image holder block)
  any_more holders holder block = (to, from)
    where
      to : AnyPointsTo image (holders ++ holder ∷ []) block → AnyPointsTo image holders block ⊎ PointsTo image holder block
      to (h, m, p) = elim (Contains-push_cases holders holder h m) [
        | inl was ↦ inl (h, was, p)
        | inr here ↦ inr (subst (λ (k : ℕ). PointsTo image k block) (sym here) p)
      ]

      from : AnyPointsTo image holders block ⊎ PointsTo image holder block → AnyPointsTo image (holders ++ holder ∷ []) block
      from (inl (h, m, p)) = (h, Contains-append_left holders (holder ∷ []) h m, p)
      from (inr p) = (holder, Contains-push holders holder, p)

-- the blocks that a header names: its own, and those that the pointer blocks of its file point to
pub names_all : (image : List ℕ) (header : ℕ) (holders blocks : List ℕ) → IsSoundHeader image header → ((holder : ℕ) → Contains holders holder ↔ (HasFileType image header × IsHolderOf image header holder))
    → GrowsBy image (AnyPointsTo image holders) (header ∷ []) blocks → (block : ℕ) → Contains blocks block ↔ HeaderNames image header block
names_all image header holders blocks sound are grown block = (to, from)
  where
    to : Contains blocks block → HeaderNames image header block
    to m = elim ((grown block).0 m) [
      | inl here ↦
          (let same : block ≡ header = only_one header block here in
          record { sound = sound; inside = subst (InImage image) (sym same) sound.inside; names = inl same })
      | inr (inside, (holder, there, points)) ↦
          (let of = (are holder).0 there in
          record { sound = sound; inside = inside; names = inr (record { is_file = of.0; holder = holder; of_file = of.1; points = points }) })
    ]

    from : HeaderNames image header block → Contains blocks block
    from n = elim n.names [
      | inl same ↦ (grown block).1 (inl (subst (Contains (header ∷ [])) (sym same) (0, omega arith, refl)))
      | inr f ↦ (grown block).1 (inr (n.inside, (f.holder, (are f.holder).1 (f.is_file, f.of_file), f.points)))
    ]
