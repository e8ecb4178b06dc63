-- The result of `check` decides.
use Rattle.ados_volume.proofs.Common.{Bool, Err, List, Ok, Stands, Tree, false, false≢true, inl, inr, one_tree, refl, true, ℕ}
use Rattle.ados_model.specs.Accepted.{Accepts, ShowsNoFault}
use Rattle.ados_volume.specs.Checked.{StandsForOne, CheckDecides}

stands_for_one : (image : List ℕ) (t : Tree) → Stands image t → StandsForOne image
stands_for_one image t s = (t, s, λ other stands. one_tree image other t stands s)

accepted : (image checked : List ℕ) (was_validated : Bool) → Accepts image was_validated checked → ShowsNoFault image × StandsForOne checked
accepted image checked false a = (a.0, stands_for_one checked a.3.0 a.3.1)
accepted image checked true a = (a.0, stands_for_one checked a.2.0 a.2.1)

pub check_decides : CheckDecides
check_decides image (Ok volume) h =
    let a = accepted image volume.image volume.was_validated h in
    inr ((λ ok. a.0, λ none. refl), a.1)
check_decides image (Err rejected) (same, inl shown) =
    inr ((λ ok. absurd (false≢true ok), λ none. absurd (none rejected.fault.kind rejected.fault.block shown)), tt)
check_decides image (Err rejected) (same, inr memory) = inl memory.0
