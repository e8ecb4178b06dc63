-- What is to be done later is still valid after more was put.
use Rattle.std.proofs.Common.{◌≡◌, List, ℕ, sym, subst}
use Rattle.adf_import.proofs.Common.{All-weaker, HasDirectory, HasEntryKey, Made, IsReady, KeepsKeys, Shown}
use Rattle.adf_import.proofs.Keeping.{keeps_same}
use Rattle.adf_import.specs.declared.progress.Progress.{Progress}
use Rattle.adf_import.specs.Progress.{Advances, IsProgress}

pub progress_kept : (old new : List ℕ) (progress : Progress) → KeepsKeys old new → IsProgress old progress → IsProgress new progress
progress_kept old new progress kept was = record {
  dirs = All-weaker (HasDirectory old) (HasDirectory new) kept.directory progress.dirs.items was.dirs;
  made = All-weaker (λ (made : Made). HasEntryKey old made.key) (λ (made : Made). HasEntryKey new made.key) (λ made is. kept.entry made.key is) progress.made.items was.made;
}

pub ready_kept : (old new : List ℕ) (dir : ℕ) (progress : Progress) → KeepsKeys old new → IsReady old dir progress → IsReady new dir progress
ready_kept old new dir progress kept was = record { dir = kept.directory dir was.dir; progress = progress_kept old new progress kept was.progress }

-- nothing was put, and that is noted
pub same_advances : (old new : Shown) (dir : ℕ) (progress done : Progress) → new ≡ old → IsReady old.image dir progress → ((image : List ℕ) → IsReady image dir progress → IsProgress image done)
    → Advances old.image new.image done
same_advances old new dir progress done same ready noted = record {
  keeps = subst (λ (v : Shown). KeepsKeys old.image v.image) (sym same) (keeps_same old.image);
  progress = noted new.image (subst (λ (v : Shown). IsReady v.image dir progress) (sym same) ready);
}
