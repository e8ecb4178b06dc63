-- Reported faults, by the faults themselves.
use Rattle.std.proofs.Common.{◌≡◌, ℕ, ◌<◌, ◌⊎◌, inl, inr, Bool, false, List, [], ◌∷◌, length, get_or, map, All, sym, ap, ◌∙◌, subst, refl, arith, lit<}
use Rattle.adf_archive.proofs.Common.{All-contains, get_or-map, length-map, AreAllFaults, IsOfMarks, ShowsOnlyMarks, ShowsOtherKind, VolumeFault, ShownFault, fault_of}
use Rattle.ados_model.specs.declared.fault.FaultKind.{FaultKind}
use Rattle.ados_model.specs.declared.fault.FaultKind.TheVariants.{NotADosDisk, UnsupportedKind}
use Rattle.ados_model.specs.Faults.{Shows}

-- there are equally many
pub many : (shown : List ShownFault) (faults : List VolumeFault) → map (λ each. each.fault) shown ≡ faults → length shown ≡ length faults
many shown faults same = sym (length-map shown (λ each. each.fault)) ∙ ap length same

-- the image shows each of them
pub shown_all : (image : List ℕ) (shown : List ShownFault) (faults : List VolumeFault) → map (λ each. each.fault) shown ≡ faults
    → All (λ fault. Shows image fault.kind fault.block) faults → All (λ each. Shows image each.fault.kind each.fault.block) shown
shown_all image shown faults same all = λ i d l.
    subst (λ (fault : VolumeFault). Shows image fault.kind fault.block)
    (ap (λ (xs : List VolumeFault). get_or xs i d.fault) (sym same) ∙ get_or-map (λ (each : ShownFault). each.fault) shown i d d.fault l)
    (all i d.fault (subst (λ (n : ℕ). i < n) (many shown faults same) l))

-- a list that is not empty has an element
pub not_empty : (faults : List VolumeFault) → ¬ (faults ≡ []) → 0 < length faults
not_empty [] some = absurd (some refl)
not_empty (fault ∷ faults) some = omega arith

-- if all faults are those of marks and checksums, the image shows no other one
pub only_marks : (image : List ℕ) (more : Bool) (faults : List VolumeFault) → more ≡ false → All (λ fault. IsOfMarks fault.kind) faults
    → AreAllFaults image 1000 more faults → ShowsOnlyMarks image
only_marks image more faults whole all are = λ kind block shown.
    All-contains (λ (fault : VolumeFault). IsOfMarks fault.kind) faults (fault_of kind block) all (are.each not_other whole kind block shown)
  where
    neither : (kind : FaultKind) → (kind ≡ NotADosDisk) ⊎ (kind ≡ UnsupportedKind) → IsOfMarks kind → ⊥
    neither kind (inl e) (inl f) = cc (e, f)
    neither kind (inl e) (inr f) = cc (e, f)
    neither kind (inr e) (inl f) = cc (e, f)
    neither kind (inr e) (inr f) = cc (e, f)

    not_other : ¬ ShowsOtherKind image
    not_other = λ other.
        let alone = (are.alone other.0 other.1).0 in
        neither other.0 other.1.of_boot (subst (All (λ (fault : VolumeFault). IsOfMarks fault.kind)) alone all 0 (fault_of other.0 0) (lit< tt))
