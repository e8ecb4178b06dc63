-- RENAME_DISK with a valid name.
use Rattle.std.proofs.Common.{◌≡◌, ℕ, Bool, false, cond, nat_lt, not, ◌==◌, List, [], ◌∷◌, length, None, Some, refl}
use Rattle.std.specs.Prelude.{◌||◌}
use Rattle.ados_handler.proofs.Common.{list_any, Date3, IsName, is_separator, first_fault, Tree, disk_renamed, DeviceNotMounted, InvalidComponentName, RenameDisk, Session, first_refusal, is_name, refusal, refuse, is_named}
use Rattle.ados_name.specs.declared.NameFault.{NameFault}
use Rattle.ados_name.specs.declared.NameFault.TheVariants as faults
use Rattle.ados_handler.proofs.Meant.{IsEdit}

pub rename_disk_edits : (t : Tree) (s : Session) (name : List ℕ) (now : Date3) → s.died ≡ false → IsName name → IsEdit t (disk_renamed now name t) s (RenameDisk name) now
rename_disk_edits t s name now alive is = record {
  none = λ i. first_refusal (refuse DeviceNotMounted (alive i) ∷ refuse InvalidComponentName (not (is_named name is i)) ∷ []);
  success = refl;
}

faulty : (a b c : Bool) (fault : NameFault) → cond a (Some faults.Empty) (cond b (Some faults.TooLong) (cond c (Some faults.Separator) None)) ≡ Some fault → not (a || b || c) ≡ false
faulty false false false fault h = absurd (let conflict : None ≡ Some fault = h in cc)
faulty a b c fault h = refl

-- a text with a fault is no name
pub unnamed : (name : List ℕ) (fault : NameFault) → first_fault name ≡ Some fault → is_name name ≡ false
unnamed name fault has = faulty (length name == 0) (nat_lt 30 (length name)) (list_any is_separator name) fault has

-- a text with a fault is refused
pub no_name_refused : (t : Tree) (s : Session) (name : List ℕ) (fault : NameFault) → s.died ≡ false → first_fault name ≡ Some fault → refusal t s (RenameDisk name) ≡ Some InvalidComponentName
no_name_refused t s name fault alive has = λ i. first_refusal (refuse DeviceNotMounted (alive i) ∷ refuse InvalidComponentName (not (unnamed name fault has i)) ∷ [])
