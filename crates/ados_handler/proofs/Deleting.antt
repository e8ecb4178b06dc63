-- DELETE_OBJECT.
use Rattle.std.proofs.Common.{◌≡◌, ℕ, false, List, [], None, Ok, sym, ap, ◌∙◌}
use Rattle.ados_handler.proofs.Common.{Date3, Tree, removed, object, DeviceNotMounted, dos_true, DeleteObject, Empty, Session, walked, refusal, refusals, after, passed, remove_refusal, remove_refusals}
use Rattle.ados_handler.proofs.Meant.{IsEdit, walked_on}

module _ (t : Tree) (s : Session) (lock : ℕ) (path : List ℕ) (key : ℕ) (alive : s.died ≡ false) (walk : walked t s lock path ≡ Ok key) where
  -- only the object can refuse it
  pub delete_refusal : refusal t s (DeleteObject lock path) ≡ remove_refusal t s key
  delete_refusal =
      passed DeviceNotMounted s.died (refusals t s (DeleteObject lock path)) alive
      ∙ (walked_on t s lock path key (remove_refusals t s (object t s lock path)) walk).0
      ∙ ap (λ (k : ℕ). remove_refusal t s k) (walked_on t s lock path key [] walk).1

  pub delete_edits : (now : Date3) → remove_refusal t s key ≡ None → IsEdit t (removed now key t) s (DeleteObject lock path) now
  delete_edits now none = record {
    none = delete_refusal ∙ none;
    success = ap (λ (k : ℕ). after (removed now k t) s dos_true Empty) (sym (walked_on t s lock path key [] walk).1);
  }
