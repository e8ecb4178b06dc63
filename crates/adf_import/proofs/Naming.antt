-- A file that is put under a name into the directory at a path.
use Rattle.std.proofs.Common.{◌≡◌, ℕ, Bool, Ok, List, subst}
use Rattle.adf_import.proofs.Common.{Date3, DosError, PutsFile, PutsIn, Stands, Tree, Shown, directory_at}
use Rattle.adf_import.specs.Commands.{PutsAs}
use Rattle.adf_import.proofs.Finding.{at_found}

module _ (moment : Date3) (to name : List ℕ) (force : Bool) (dir : ℕ) (old new : Shown) (found : (t : Tree) → Stands old.image t → directory_at to t ≡ Ok dir) where
  named : PutsIn moment dir name force old.image new.image → PutsAs moment to name force old new
  named h = (
    h.0,
    h.1,
    λ t s.
        at_found (λ d. PutsFile moment d name force h.0 h.1 t old.image new.image) (λ (_ : DosError). ⊥) (directory_at to t) dir (found t s) (h.2 t s),
  )

  pub put_as : (called : List ℕ) (looked : Shown) → looked ≡ old → called ≡ name → PutsIn moment dir called force looked.image new.image → PutsAs moment to name force old new
  put_as called looked same is h = named (subst (λ (n : List ℕ). PutsIn moment dir n force old.image new.image) is (subst (λ (v : Shown). PutsIn moment dir called force v.image new.image) same h))
