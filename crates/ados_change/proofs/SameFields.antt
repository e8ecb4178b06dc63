-- Two images with the same fields in a block: its runs of longs, and its texts.
use Rattle.ados_change.proofs.Common.{◌≡◌, ◌≢◌, ℕ, zero, suc, ◌+◌, ◌-◌, ◌*◌, ◌/◌, ◌<◌, ◌≤◌, ◌⊎◌, inl, inr, List, [], ◌∷◌, length, slice_index, refl, sym, ap, ◌∙◌, subst, arith, cases_lt, cases_eq, IsImage, byte_at, long, block_sum, HasText, long-same, byte-bytes_at, InLongs, InText}
use Rattle.std.specs.List.{AllByRecursion}
use Rattle.ados_change.proofs.BytesUntold.{byte_of_long, bytes_same}

-- byte i is in one of these runs or in none
pub in_runs : (runs : List (ℕ × ℕ)) (i : ℕ) → InLongs runs i ⊎ (¬ InLongs runs i)
in_runs [] i = inr (λ m. omega (arith, m.2))
in_runs (run ∷ runs) i = elim (cases_lt i (4 * run.0)) [
  | inl low ↦ further (in_runs runs i) (λ m. omega (arith, m.0, low))
  | inr high ↦ elim (cases_lt i (4 * (run.1 + 1))) [
    | inl within ↦ inl (0, run, omega arith, refl, (high, within))
    | inr past ↦ further (in_runs runs i) (λ m. omega (arith, m.1, past))
  ]
]
  where
    further : InLongs runs i ⊎ (¬ InLongs runs i) → ¬ ((4 * run.0 ≤ i) × (i < 4 * (run.1 + 1))) → InLongs (run ∷ runs) i ⊎ (¬ InLongs (run ∷ runs) i)
    further later none = elim later [
      | inl m ↦ inl (suc m.0, m.1, omega (arith, m.2), m.3, m.4)
      | inr n ↦ inr (λ m. split none n m)
    ]
      where
        split : ¬ ((4 * run.0 ≤ i) × (i < 4 * (run.1 + 1))) → ¬ InLongs runs i → InLongs (run ∷ runs) i → ⊥
        split none n (zero, at, l, e, p) = none (subst (λ (r : ℕ × ℕ). (4 * r.0 ≤ i) × (i < 4 * (r.1 + 1))) (sym e) p)
        split none n (suc k, at, l, e, p) = n (k, at, omega (arith, l), e, p)

-- a fact about each long of each run holds of the long of a byte in a run
pub of_runs : (P : ℕ → Type 0) (runs : List (ℕ × ℕ)) → AllByRecursion (λ (run : ℕ × ℕ). (j : ℕ) → run.0 ≤ j → j ≤ run.1 → P j) runs → (i : ℕ) → InLongs runs i → P (i / 4)
of_runs P [] each i m = absurd (omega (arith, m.2))
of_runs P (run ∷ runs) each i (zero, at, l, e, p) =
    let here = subst (λ (r : ℕ × ℕ). (4 * r.0 ≤ i) × (i < 4 * (r.1 + 1))) (sym e) p in
    each.0 (i / 4) (omega (arith, here.0)) (omega (arith, here.1))
of_runs P (run ∷ runs) each i (suc k, at, l, e, p) = of_runs P runs each.1 i (k, at, omega (arith, l), e, p)

module _ (a z : List ℕ) (b : ℕ) where
  -- the one long of a run
  pub only_long : (c : ℕ) → long a b c ≡ long z b c → (j : ℕ) → c ≤ j → j ≤ c → long a b j ≡ long z b j
  only_long c e j l m = let same : j ≡ c = omega (arith, l, m) in ap (long a b) same ∙ e ∙ ap (long z b) (sym same)

  -- a text is the same where it is
  pub text_same : (at : ℕ) (text : List ℕ) → HasText a b at text → HasText z b at text → (i : ℕ) → InText a b at i → byte_at a b i ≡ byte_at z b i
  text_same at text h k i m = elim (cases_eq i at) [
    | inl e ↦ ap (byte_at a b) e ∙ h.counted ∙ sym (ap (byte_at z b) e ∙ k.counted)
    | inr n ↦
        let within : i - (at + 1) < length text = omega (arith, m.0, m.1, n, h.counted) in
        let place : at + 1 + (i - (at + 1)) ≡ i = omega (arith, m.0, n) in
        ap (byte_at a b) (sym place) ∙ sym (byte-bytes_at a b (at + 1) (length text) (i - (at + 1)) within) ∙ ap (λ (xs : List ℕ). slice_index xs (i - (at + 1))) (h.follows ∙ sym k.follows)
        ∙ byte-bytes_at z b (at + 1) (length text) (i - (at + 1)) within ∙ ap (byte_at z b) place
  ]

  -- byte i is in the text or not
  pub in_text : (at i : ℕ) → InText a b at i ⊎ (¬ InText a b at i)
  in_text at i = elim (cases_lt i at) [
    | inl low ↦ inr (λ m. omega (arith, m.0, low))
    | inr high ↦ elim (cases_lt (at + byte_at a b at) i) [
      | inl past ↦ inr (λ m. omega (arith, m.1, past))
      | inr within ↦ inl (high, within)
    ]
  ]

  -- a block with the same longs in its runs but for the checksum, and the same bytes elsewhere, is the same
  pub block_bytes : IsImage a → IsImage z → block_sum a b ≡ 0 → block_sum z b ≡ 0 → (runs : List (ℕ × ℕ))
      → AllByRecursion (λ (run : ℕ × ℕ). (j : ℕ) → run.0 ≤ j → j ≤ run.1 → j ≢ 5 → long a b j ≡ long z b j) runs
      → ((i : ℕ) → i < 512 → ¬ InLongs runs i → byte_at a b i ≡ byte_at z b i) → (i : ℕ) → i < 512 → byte_at a b i ≡ byte_at z b i
  block_bytes ia iz sum_a sum_z runs told rest = bytes_same z a iz ia b 5 (omega arith) sum_z sum_a (λ j l n. long-same z a b j (λ i e. byte i (omega (arith, l, e)) (λ five. n (sym e ∙ five))))
    where
      byte : (i : ℕ) → i < 512 → i / 4 ≢ 5 → byte_at a b i ≡ byte_at z b i
      byte i l n = elim (in_runs runs i) [
        | inl m ↦ byte_of_long z a iz ia b i (of_runs (λ (j : ℕ). j ≢ 5 → long a b j ≡ long z b j) runs told i m n)
        | inr none ↦ rest i l none
      ]
