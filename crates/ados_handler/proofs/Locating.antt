-- One more lock on an object that is not in use.
use Rattle.std.proofs.Common.{◌≡◌, ℕ, List, Bool, false, sym, subst}
use Rattle.ados_handler.proofs.Common.{nat_cmp, FinMap, insert, HasKey, LockHold, Session, is_in_use, IsProperSession, IsSoundHandler}
use Rattle.ados_handler.proofs.Holding.{not_in_use, proper_with_lock}

-- the handler is still sound
pub sound_locked : (image : List ℕ) (session : Session) → IsSoundHandler image session → (number key : ℕ) (exclusive : Bool) → HasKey image key → is_in_use session key exclusive ≡ false
    → (locks : FinMap nat_cmp LockHold) → locks ≡ insert session.locks number (record { key = key; exclusive = exclusive }) → IsSoundHandler image (record session { locks = locks })
sound_locked image session sound number key exclusive there free locks is = record {
  tree = sound.tree;
  stands = sound.stands;
  holds = subst (IsProperSession sound.tree) (λ i. record session { locks = sym is i })
      (proper_with_lock sound.tree session sound.holds number key exclusive (there sound.tree sound.stands) (not_in_use session key exclusive free));
}
