-- What a search says of the list of its faults.
use Rattle.ados_faults.proofs.Common.{All, Contains, ◌≡◌, ℕ, ◌<◌, ◌≤◌, inl, inr, Bool, true, false, List, [], ◌∷◌, length, refl, ap, arith, cases_Bool, Shows, AreFirstFaults, ListsFaults, IsFull, ListsNoted, VolumeFault}
use Rattle.ados_model.specs.Accepted.{ShowsNoFault}
use Rattle.ados_faults.specs.steps.Searched.{IsSearched}
use Rattle.ados_faults.proofs.Cells.{first_faults}

-- an image without faults has none in a list
none_shown : (image : List ℕ) (faults : List VolumeFault) → All (λ fault. Shows image fault.kind fault.block) faults → ShowsNoFault image → faults ≡ []
none_shown image [] shown none = refl
none_shown image (x ∷ xs) shown none = absurd (none x.kind x.block (shown 0 x (omega arith)))

module _ (image : List ℕ) (cells : List Bool) (s : IsSearched image cells) where
  -- if the list of the noted faults has none, the image shows none
  none_left : (faults : List VolumeFault) → ListsNoted cells faults → faults ≡ [] → ShowsNoFault image
  none_left faults each is kind block shown = empty (each kind block (s.each kind block shown))
    where
      empty : {fault : VolumeFault} → Contains faults fault → ⊥
      empty (k, l, e) = omega (arith, l, ap length is)

  pub none_listed_shows_none : (faults : List VolumeFault) → ListsNoted cells faults → All (λ fault. Shows image fault.kind fault.block) faults
      → (faults ≡ [] → ShowsNoFault image) × (ShowsNoFault image → faults ≡ [])
  none_listed_shows_none faults each shown = (none_left faults each, none_shown image faults shown)

  module _ (most : ℕ) (more : Bool) (faults : List VolumeFault) (lists : ListsFaults image most faults) (each : more ≡ false → ListsNoted cells faults) (full : more ≡ true → IsFull image cells most faults) where
    pub none_exactly : 1 ≤ most → (faults ≡ [] → ShowsNoFault image) × (ShowsNoFault image → faults ≡ [])
    none_exactly some = (
      λ is. elim (cases_Bool more) [
        | inl over ↦ absurd (omega (arith, some, (full over).full, ap length is))
        | inr last ↦ none_left faults (each last) is
      ],
      none_shown image faults lists.shown,
    )

    pub whole_exactly : ShowsNoFault image → more ≡ false
    whole_exactly none = elim (cases_Bool more) [
      | inl over ↦ let m = (full over).more in absurd (let f = m.faults in many f m.shown m.many)
      | inr last ↦ last
    ]
      where
        many : (fs : List VolumeFault) → All (λ fault. Shows image fault.kind fault.block) fs → most < length fs → ⊥
        many fs shown l = omega (arith, l, ap length (none_shown image fs shown none))

    pub firsts : AreFirstFaults image most more faults
    firsts = first_faults image cells most more faults s.each full each lists.few lists.in_order
