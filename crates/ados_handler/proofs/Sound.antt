-- What keeps a handler sound: its image represents a tree, and its holds are proper for that tree.
use Rattle.std.proofs.Common.{◌≡◌, ℕ, Bool, Some, None, false, sym, ap, ◌∙◌, subst, List}
use Rattle.std.specs.Prelude.{option_map}
use Rattle.std.specs.FinMap.{get}
use Rattle.ados_handler.proofs.Common.{IsSome, nat_cmp, FinMap, empty, get-empty, insert, remove, none-some, Tree, Stands, HasKey, one_tree, Session, opening_session, LockHold, HandleHold, HoldNumber, hold_at, IsProperSession, ByLock, ByHandle, IsSoundHandler}
use Rattle.ados_handler.proofs.Holding.{proper_with_lock, proper_without_lock, proper_without_handle, shared_free}

-- nothing is held at first
no_hold : (hold : HoldNumber) → hold_at opening_session hold ≡ None
no_hold (ByLock n) = ap (option_map (λ (l : LockHold). (l.key, l.exclusive))) (get-empty nat_cmp n)
no_hold (ByHandle n) = ap (option_map (λ (h : HandleHold). (h.key, h.exclusive))) (get-empty nat_cmp n)

pub opening_proper : (t : Tree) → IsProperSession t opening_session
opening_proper t = record {
  on_keys = λ hold key exclusive h. absurd (none-some (key, exclusive) (sym (no_hold hold) ∙ h));
  on_files = λ number h at. absurd (none-some h (sym (get-empty nat_cmp number) ∙ at));
  alone = λ a b key exclusive h g. absurd (none-some (key, exclusive) (sym (no_hold b) ∙ g));
}

pub sound_opening : (image : List ℕ) → (t : Tree) × Stands image t → (locks : FinMap nat_cmp LockHold) (handles : FinMap nat_cmp HandleHold) → locks ≡ empty → handles ≡ empty → IsSoundHandler image (record { locks = locks; handles = handles; died = false })
sound_opening image (t, stands) locks handles no_locks no_handles = record {
  tree = t;
  stands = stands;
  holds = subst (IsProperSession t) (λ i. record { locks = sym no_locks i; handles = sym no_handles i; died = false }) (opening_proper t);
}

module _ (image : List ℕ) (locks : FinMap nat_cmp LockHold) (handles : FinMap nat_cmp HandleHold) (died : Bool) (sound : IsSoundHandler image (record { locks = locks; handles = handles; died = died })) (number : ℕ) where
  pub sound_without_lock : (fewer : FinMap nat_cmp LockHold) → fewer ≡ remove locks number → IsSoundHandler image (record { locks = fewer; handles = handles; died = died })
  sound_without_lock fewer is = record {
    tree = sound.tree;
    stands = sound.stands;
    holds = subst (IsProperSession sound.tree) (λ i. record { locks = sym is i; handles = handles; died = died }) (proper_without_lock sound.tree (record { locks = locks; handles = handles; died = died }) sound.holds number);
  }

  pub sound_without_handle : (fewer : FinMap nat_cmp HandleHold) → fewer ≡ remove handles number → IsSoundHandler image (record { locks = locks; handles = fewer; died = died })
  sound_without_handle fewer is = record {
    tree = sound.tree;
    stands = sound.stands;
    holds = subst (IsProperSession sound.tree) (λ i. record { locks = locks; handles = sym is i; died = died }) (proper_without_handle sound.tree (record { locks = locks; handles = handles; died = died }) sound.holds number);
  }

-- the object of a lock is a node
pub sound_key : (image : List ℕ) (session : Session) → IsSoundHandler image session → (lock : ℕ) (hold : LockHold) → get session.locks lock ≡ Some hold → HasKey image hold.key
sound_key image session sound lock hold at t stands =
    subst (λ (u : Tree). IsSome (u.nodes hold.key)) (one_tree image sound.tree t sound.stands stands)
    (sound.holds.on_keys (ByLock lock) hold.key hold.exclusive (ap (option_map (λ (l : LockHold). (l.key, l.exclusive))) at))

-- one more shared lock on the object of another
pub sound_copied : (image : List ℕ) (session : Session) → IsSoundHandler image session → (lock : ℕ) (hold : LockHold) → get session.locks lock ≡ Some hold → hold.exclusive ≡ false
    → (number : ℕ) (locks : FinMap nat_cmp LockHold) → locks ≡ insert session.locks number hold → IsSoundHandler image (record session { locks = locks })
sound_copied image session sound lock hold at shared number locks is = record {
  tree = sound.tree;
  stands = sound.stands;
  holds = subst (IsProperSession sound.tree) (λ i. record session { locks = more i })
      (proper_with_lock sound.tree session sound.holds number hold.key false there (shared_free sound.tree session sound.holds lock hold at shared));
}
  where
    more : insert session.locks number (record { key = hold.key; exclusive = false }) ≡ locks
    more = ap (λ (b : Bool). insert session.locks number (record { key = hold.key; exclusive = b })) (sym shared) ∙ sym is

    there : IsSome (sound.tree.nodes hold.key)
    there = sound.holds.on_keys (ByLock lock) hold.key hold.exclusive (ap (option_map (λ (l : LockHold). (l.key, l.exclusive))) at)
