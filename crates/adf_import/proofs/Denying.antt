-- Whether protection bits deny the deletion of an entry with everything below it.
use Rattle.std.proofs.Common.{◌≡◌, ℕ, suc, ◌<◌, inl, inr, Bool, true, false, not, List, [], ◌∷◌, length, get_or, Contains, refl, sym, ap, ap₂, ◌∙◌, arith}
use Rattle.adf_import.proofs.Common.{◌&&◌, false≢true, true≢false, Contains-cases, Contains-nil, denies_delete, Tree, Proper, Stands, itself, protection_of, AreKeysBelow}
use Rattle.std.specs.Prelude.{Option, None, Some, is_some}
use Rattle.adf_import.specs.Pruned.{Denies, IsDenied, IsDeniedEntry}
use Rattle.adf_import.proofs.KeysBelow.{among}

-- a test of protection bits that `force` skips
unforced : (force denies : Bool) → not force && denies ≡ true → (force ≡ false) × (denies ≡ true)
unforced true denies h = absurd (false≢true h)
unforced false denies h = (refl, h)

-- a test that no key of a list passes
none_passes : (keys : List ℕ) (test : ℕ → Bool) → ((i : ℕ) → i < length keys → test (get_or keys i 0) ≡ false) → (key : ℕ) → Contains keys key → test key ≡ false
none_passes [] test each key c = absurd (Contains-nil key c)
none_passes (x ∷ xs) test each key c = elim (Contains-cases x xs key c) [
  | inl same ↦ ap test (sym same) ∙ each 0 (omega arith)
  | inr later ↦ none_passes xs test (λ i l. each (suc i) (omega arith)) key later
]

-- without `force`, a protection bit of an object denies deletion
abbrev pub denies : Tree → Bool → ℕ → Bool
denies t force key = not force && denies_delete (protection_of t key)

module _ (t : Tree) (proper : Proper t) (top : ℕ) (force : Bool) (keys : List ℕ) (below : AreKeysBelow t top keys) where
  pub below_denied : (key : ℕ) → Contains keys key → denies t force key ≡ true → Denies t top force key
  below_denied key c h = let p = unforced force _ h in record { unforced = p.0; under = below.below key c; denied = p.1 }

  pub itself_denied : denies t force top ≡ true → Denies t top force top
  itself_denied h = let p = unforced force _ h in record { unforced = p.0; under = itself refl; denied = p.1 }

  pub none_denied : ((i : ℕ) → i < length keys → denies t force (get_or keys i 0) ≡ false) → denies t force top ≡ false → ¬ IsDenied t top force
  none_denied each own d =
      let told : denies t force d.1.0 ≡ true = ap₂ (λ (f b : Bool). not f && b) d.0 d.1.2 in
      elim (Contains-cases top keys d.1.0 (among t proper top keys below d.1.0 d.1.1)) [
        | inl same ↦ true≢false (sym told ∙ ap (denies t force) (sym same) ∙ own)
        | inr c ↦ true≢false (sym told ∙ none_passes keys (denies t force) each d.1.0 c)
      ]

pub shown_allowed : (image : List ℕ) (key : ℕ) (force : Bool) (found : Option ℕ) → IsDeniedEntry image key force found → is_some found ≡ false
    → (t : Tree) → Stands image t → ¬ IsDenied t key force
shown_allowed image key force None denied none t s = denied t s
shown_allowed image key force (Some entry) denied none t s = absurd (true≢false none)
