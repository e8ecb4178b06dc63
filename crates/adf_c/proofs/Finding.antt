-- The faults of an image for C, one after the other.
use Rattle.std.proofs.Common.{◌≡◌, ℕ, ◌+◌, ◌<◌, ◌≤◌, List, [], ◌∷◌, ◌++◌, length, take, take_all, get_or, sym, subst}
use Rattle.std.proofs.lemmas.List.{take_more}
use Rattle.ados_model.specs.declared.fault.VolumeFault.{VolumeFault}
use Rattle.adf_c.specs.Findings.{AreFindings, IsFindingOf}
use Rattle.ados_faults.specs.Listed.{Marks}
use Rattle.adf_c.specs.declared.values.findings.JipFinding.{JipFinding}

pub none_found : (image : List ℕ) (marks : Marks) → AreFindings image marks [] []
unfolding AreFindings
none_found image marks = tt

and_one : (image : List ℕ) (marks : Marks) (faults : List VolumeFault) (told : List JipFinding) (fault : VolumeFault) (finding : JipFinding) → AreFindings image marks faults told → IsFindingOf image marks fault finding
    → AreFindings image marks (faults ++ fault ∷ []) (told ++ finding ∷ [])
unfolding AreFindings
and_one image marks [] [] fault finding all one = (one, tt)
and_one image marks [] (t ∷ told) fault finding all one = absurd all
and_one image marks (f ∷ faults) [] fault finding all one = absurd all
and_one image marks (f ∷ faults) (t ∷ told) fault finding all one = (all.0, and_one image marks faults told fault finding all.1 one)

-- one more fault is told
pub one_more : (image : List ℕ) (marks : Marks) (faults : List VolumeFault) (told new : List JipFinding) (k : ℕ) (fault : VolumeFault) (finding : JipFinding) → AreFindings image marks (take k faults) told → k < length faults
    → fault ≡ get_or faults k fault → IsFindingOf image marks fault finding → new ≡ told ++ finding ∷ [] → AreFindings image marks (take (k + 1) faults) new
one_more image marks faults told new k fault finding so_far within read is put =
    let more = subst (λ (f : VolumeFault). AreFindings image marks (take k faults ++ f ∷ []) (told ++ finding ∷ [])) read (and_one image marks (take k faults) told fault finding so_far is) in
    subst (λ (l : List JipFinding). AreFindings image marks (take (k + 1) faults) l) (sym put)
    (subst (λ (l : List VolumeFault). AreFindings image marks l (told ++ finding ∷ [])) (sym (take_more faults k fault within)) more)

-- all faults are told
pub all_found : (image : List ℕ) (marks : Marks) (faults : List VolumeFault) (told : List JipFinding) (k : ℕ) → AreFindings image marks (take k faults) told → length faults ≤ k → AreFindings image marks faults told
all_found image marks faults told k so_far past = subst (λ (l : List VolumeFault). AreFindings image marks l told) (take_all k faults past) so_far
