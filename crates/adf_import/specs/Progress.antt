-- The progress of putting files and directories of the host.
use Rattle.std.specs.Prelude.{ℕ, List, All}
use Rattle.ados_model.specs.Keys.{HasDirectory, HasEntryKey}
use Rattle.adf_import.specs.declared.progress.Progress.{Progress}
use Rattle.adf_import.specs.Put.{KeepsKeys}

-- the directories that more may be put into are directories, and the new ones are entries
pub record IsProgress (image : List ℕ) (progress : Progress) : Type 0 where
  pub dirs : All (HasDirectory image) progress.dirs.items
  pub made : All (λ made. HasEntryKey image made.key) progress.made.items

-- more can be put into this directory
pub record IsReady (image : List ℕ) (top : ℕ) (done : Progress) : Type 0 where
  pub dir : HasDirectory image top
  pub progress : IsProgress image done

-- one more was put: what was there is still there
pub record Advances (old new : List ℕ) (done : Progress) : Type 0 where
  pub keeps : KeepsKeys old new
  pub progress : IsProgress new done
