-- The walks of packets end at nodes.
use Rattle.std.proofs.Common.{◌≡◌, ℕ, Bool, true, false, cond, List, [], ◌∷◌, nat_eq, Option, Some, None, Result, Ok, Err, IsSome, is_some, refl, sym, ap, ◌∙◌}
use Rattle.std.specs.Prelude.{◌||◌, option_map}
use Rattle.std.specs.FinMap.{get}
use Rattle.ados_handler.proofs.Common.{option_map_or, result_err, result_unwrap_or, Step, is_from_root, steps, Tree, Proper, root, and_then, missing_before, start_of, step_from, walk_steps, WalkFault, step_key, Session, is_lock, LockHold, lock_key, found, IsProperSession, ByLock}
use Rattle.ados_model.specs.declared.dos_error.WalkFault.TheVariants.{ObjectNotFound}

-- a result without an error has its value
pub no_error : {A E D : Type 0} (number : E → D) (r : Result A E) (d : A) → option_map number (result_err r) ≡ None → r ≡ Ok (result_unwrap_or r d)
no_error number (Ok x) d e = refl
no_error number (Err c) d e = absurd (cc e)

and_then_ok : {E : Type 0} (r : Result ℕ E) (rest : ℕ → Result ℕ E) (key : ℕ) → and_then r rest ≡ Ok key → (middle : ℕ) × (r ≡ Ok middle) × (rest middle ≡ Ok key)
and_then_ok (Ok middle) rest key e = (middle, refl, e)
and_then_ok (Err fault) rest key e = absurd (cc e)

module _ (t : Tree) (proper : Proper t) where
  pub root_is_key : IsSome (t.nodes (root t))
  root_is_key = ap is_some proper.root_node.1

  -- steps from a node end at a node
  pub walk_key : (start : ℕ) (path : List Step) (last : WalkFault) (key : ℕ) → IsSome (t.nodes start) → walk_steps t start path last ≡ Ok key → IsSome (t.nodes key)
  walk_key start [] last key there e = let same : start ≡ key = cc e in ap (λ k. is_some (t.nodes k)) (sym same) ∙ there
  walk_key start (step ∷ rest) last key there e =
      let first = and_then_ok (step_from t start step (missing_before rest last)) (λ next. walk_steps t next rest last) key e
      in walk_key first.0 rest last key (step_key t proper start step (missing_before rest last) first.0 first.1) first.2

  module _ (s : Session) (session : IsProperSession t s) where
    -- the object of a lock is a node
    pub lock_is_key : (lock : ℕ) → is_lock s lock ≡ true → IsSome (t.nodes (lock_key t s lock))
    lock_is_key lock held = go (nat_eq lock 0) held
      where
        at_lock : (o : Option LockHold) → get s.locks lock ≡ o → is_some o ≡ true → IsSome (t.nodes (option_map_or (λ l. l.key) o 0))
        at_lock None e h = absurd (cc)
        at_lock (Some l) e h = session.on_keys (ByLock lock) l.key l.exclusive (ap (option_map (λ l. (l.key, l.exclusive))) e)

        go : (b : Bool) → b || is_some (get s.locks lock) ≡ true → IsSome (t.nodes (cond b (root t) (option_map_or (λ l. l.key) (get s.locks lock) 0)))
        go true h = root_is_key
        go false h = at_lock (get s.locks lock) refl h

    -- the start of a path from it is a node
    pub start_is_key : (lock : ℕ) (path : List ℕ) → is_lock s lock ≡ true → IsSome (t.nodes (start_of t (lock_key t s lock) path))
    start_is_key lock path held = go (is_from_root path)
      where
        go : (b : Bool) → IsSome (t.nodes (cond b (root t) (lock_key t s lock)))
        go true = root_is_key
        go false = lock_is_key lock held

    -- the end of the path is a node
    pub found_is_key : (lock : ℕ) (path : List ℕ) (key : ℕ) → is_lock s lock ≡ true → found t s lock path ≡ Ok key → IsSome (t.nodes key)
    found_is_key lock path key held e = walk_key (start_of t (lock_key t s lock) path) (steps path) ObjectNotFound key (start_is_key lock path held) e
