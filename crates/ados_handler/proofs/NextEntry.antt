-- EXAMINE_NEXT.
use Rattle.std.proofs.Common.{◌≡◌, ℕ, Bool, true, false, cond, not, ◌==◌, [], ◌∷◌, Option, Some, None, refl, sym, ap, ◌∙◌, subst}
use Rattle.std.specs.Prelude.{◌||◌, option_map}
use Rattle.std.specs.FinMap.{get}
use Rattle.ados_handler.proofs.Common.{is_none, is_some, option_map_or, none-some, Date3, Node, Tree, root, is_file, entries_after, file_info, lock_key, DeviceNotMounted, InvalidLock, NoMoreEntries, ObjectWrongType, ExamineNext, Results, LockHold, Session, is_lock, lock_object, first_refusal, is_empty, is_some_and, refusal, refuse, MethodMeans, Places}
use Rattle.ados_chain.specs.Look.{first_left}
use Rattle.ados_chain.specs.declared.read.Next.TheVariants.{Entry}
use Rattle.ados_chain.proofs.Order.{first-entry}
use Rattle.ados_model.specs.declared.dos_error.DosError.TheVariants.{ObjectNotFound}
use Rattle.ados_model.specs.declared.answer.FileInfo.{FileInfo}
use Rattle.ados_model.specs.declared.answer.Body.TheVariants as body
use Rattle.ados_handler.proofs.Meant.{done, served_means}

-- a lock with an object is held, and is on that object
lock_on : (t : Tree) (s : Session) (lock key : ℕ) → lock_object t s lock ≡ Some key → (is_lock s lock ≡ true) × (lock_key t s lock ≡ key)
lock_on t s lock key = go (lock == 0) (get s.locks lock)
  where
    go : (b : Bool) (o : Option LockHold) → cond b (Some (root t)) (option_map (λ l. l.key) o) ≡ Some key → (b || is_some o ≡ true) × (cond b (root t) (option_map_or (λ l. l.key) o 0) ≡ key)
    go false None e = absurd (none-some key e)
    go b o e = (refl, cc e)

-- EXAMINE_NEXT with a lock on a directory, for a living handler
module _ (t : Tree) (s : Session) (lock dir key : ℕ) (alive : s.died ≡ false) (is : lock_object t s lock ≡ Some dir) (directory : is_file t dir ≡ false) where
  pub next_means : (places : Places) (next : ℕ) (node : Node) (info : FileInfo) (now : Date3) (results : Results) → first_left (entries_after t dir key) ≡ Entry next → t.nodes next ≡ Some node
      → info ≡ file_info t.format next node → results ≡ done (body.Entry info) → MethodMeans places t s (ExamineNext lock key) now t s results
  next_means places next node info now results e at told brought =
      let left = first-entry (entries_after t dir key) next e in
      let l = lock_on t s lock dir is in
      let after : entries_after t (lock_key t s lock) key ≡ Some (next ∷ left.0) = ap (λ (d : ℕ). entries_after t d key) l.1 ∙ left.1 in
      let no_file : is_file t (lock_key t s lock) ≡ false = ap (is_file t) l.1 ∙ directory in
      let none : refusal t s (ExamineNext lock key) ≡ None =
      λ i. first_refusal (refuse DeviceNotMounted (alive i) ∷ refuse InvalidLock (not (l.0 i)) ∷ refuse ObjectWrongType (no_file i) ∷ refuse ObjectNotFound (is_none (after i)) ∷ refuse NoMoreEntries (is_some_and is_empty (after i)) ∷ []) in
      let is_told : results ≡ done (body.Entry (file_info t.format next node)) = brought ∙ (λ i. done (body.Entry (told i))) in
      subst (λ (r : Results). MethodMeans places t s (ExamineNext lock key) now t s r) (sym is_told)
      (served_means places t t s s (ExamineNext lock key) now (done (body.Entry (file_info t.format next node))) none
      (record { success = (next, left.0, after, (node, at, refl)); action = refl; res2 = refl }))
