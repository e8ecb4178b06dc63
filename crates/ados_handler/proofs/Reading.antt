-- Packets that change no tree keep tree and session proper.
use Rattle.std.proofs.Common.{◌≡◌, ℕ, ◌+◌, ◌≤◌, ℤ, pos, negsuc, Bool, true, false, cond, List, ◌∷◌, length, take, drop, nat_eq, Some, None, refl, sym, ap, inl, inr, arith, subst, MatchOption, length-take, length-drop}
use Rattle.std.specs.Prelude.{◌||◌, option_map}
use Rattle.std.specs.Bool.{MatchBool}
use Rattle.std.specs.FinMap.{get}
use Rattle.ados_handler.proofs.Common.{Option, is_some, IsSome, int_le, option_map_or, insert, leb-true, true≢false, not-false, and_parts, Date3, Content, Tree, Proper, root, bytes_in, bytes_of, content_at, parent_of, size_of, size_in, Directory, File, is_file, DosError, DeviceNotMounted, InvalidLock, NoFreeStore, ObjectInUse, ObjectWrongType, SeekError, Packet, Die, LocateObject, FreeLock, CopyDir, Parent, Read, FindInput, End, Seek, Body, Empty, Session, is_lock, is_held_exclusively, without_lock, at_position, handle_key, handle_position, LockHold, HandleHold, walk_error, lock_key, found, object, is_exclusive_mode, is_bad_target, target_number, seek_target, refuse, refusal, refusals, is_some_and, After, after, Success, GivesLock, GivesHandle, IsRefused, ServedOrNoMemory, none_refuses, not_refused, HoldNumber, hold_at, IsProperSession, ByLock, ByHandle, KeepsProper, parent_is_key}
use Rattle.ados_handler.proofs.Holding.{proper_with_lock, proper_with_handle, proper_without_lock, proper_without_handle, proper_moved, shared_free, IsFree, not_in_use}
use Rattle.ados_handler.proofs.Walked.{found_is_key, no_error}

-- the number of a file's bytes is its size
pub size_is : (c : Option Content) → length (bytes_in c) ≡ size_in c
size_is None = refl
size_is (Some (Directory keys)) = refl
size_is (Some (File bytes)) = refl

-- the state after a packet is proper
abbrev pub IsProperAfter : After → Type 0
IsProperAfter result = Proper result.tree × IsProperSession result.tree result.session

pub same_after : (result other : After) → result ≡ other → IsProperAfter other → IsProperAfter result
same_after result other e p = subst IsProperAfter (sym e) p

-- for a packet that is served or refused, its effect as a success decides
pub by_success : (packet : Packet)
    → ((t : Tree) (s : Session) (now : Date3) (result : After) → Proper t → IsProperSession t s → refusal t s packet ≡ None → Success t s packet now result → IsProperAfter result)
    → KeepsProper packet
by_success packet keeps t new_tree s new_session now answer proper session meaning = go (refusal t s packet) refl meaning
  where
    unchanged : (code : DosError) → IsRefused t s packet code new_tree new_session answer → Proper new_tree × IsProperSession new_tree new_session
    unchanged code w = (subst Proper (sym w.tree) proper, subst (λ u. IsProperSession u new_session) (sym w.tree) (subst (λ u. IsProperSession t u) (sym w.session) session))

    go : (o : Option DosError) → refusal t s packet ≡ o → MatchOption o (ServedOrNoMemory t s packet now new_tree new_session answer) (λ code. IsRefused t s packet code new_tree new_session answer) → Proper new_tree × IsProperSession new_tree new_session
    go (Some code) e w = unchanged code w
    go None e (inl w) = keeps t s now (after new_tree new_session answer.res1 answer.body) proper session e w.success
    go None e (inr w) = unchanged NoFreeStore w.1

module _ (t : Tree) (s : Session) (now : Date3) (result : After) (proper : Proper t) (session : IsProperSession t s) where
  -- a packet that changes nothing, and one that dies
  pub same : (res1 : ℤ) (body : Body) → result ≡ after t s res1 body → IsProperAfter result
  same res1 body e = same_after result (after t s res1 body) e (proper, session)

  pub die : Success t s Die now result → IsProperAfter result
  die e = same_after result _ e (proper, record { on_keys = session_keys; on_files = session.on_files; alone = session_alone })
    where
      session_keys : (hold : HoldNumber) (key : ℕ) (exclusive : Bool) → hold_at (record s { died = true }) hold ≡ Some (key, exclusive) → IsSome (t.nodes key)
      session_keys (ByLock n) key exclusive h = session.on_keys (ByLock n) key exclusive h
      session_keys (ByHandle n) key exclusive h = session.on_keys (ByHandle n) key exclusive h

      session_alone : (a b : HoldNumber) (key : ℕ) (exclusive : Bool) → hold_at (record s { died = true }) a ≡ Some (key, true) → hold_at (record s { died = true }) b ≡ Some (key, exclusive) → a ≡ b
      session_alone (ByLock n) (ByLock m) key exclusive h k = session.alone (ByLock n) (ByLock m) key exclusive h k
      session_alone (ByLock n) (ByHandle m) key exclusive h k = session.alone (ByLock n) (ByHandle m) key exclusive h k
      session_alone (ByHandle n) (ByLock m) key exclusive h k = session.alone (ByHandle n) (ByLock m) key exclusive h k
      session_alone (ByHandle n) (ByHandle m) key exclusive h k = session.alone (ByHandle n) (ByHandle m) key exclusive h k

  -- a new lock on an object that is not in use, and a new handle on a file
  gives_lock : (key : ℕ) (exclusive : Bool) → IsSome (t.nodes key) → IsFree s key exclusive → GivesLock t s key exclusive result → IsProperAfter result
  gives_lock key exclusive there free w = same_after result _ w.2 (proper, proper_with_lock t s session w.0 key exclusive there free)

  gives_handle : (key : ℕ) (exclusive : Bool) → IsSome (t.nodes key) → is_file t key ≡ true → IsFree s key exclusive → GivesHandle t s key exclusive result → IsProperAfter result
  gives_handle key exclusive there file free w = same_after result _ w.2 (proper, proper_with_handle t s session w.0 key exclusive there file free)

  pub free_lock : (lock : ℕ) → Success t s (FreeLock lock) now result → IsProperAfter result
  free_lock lock e = same_after result _ e (proper, go (nat_eq lock 0))
    where
      go : (b : Bool) → IsProperSession t (cond b s (without_lock lock s))
      go true = session
      go false = proper_without_lock t s session lock

  -- an object with a shared lock can be locked again
  pub copy : (lock : ℕ) → refusal t s (CopyDir lock) ≡ None → Success t s (CopyDir lock) now result → IsProperAfter result
  copy lock none w =
      let no = none_refuses (refuse DeviceNotMounted s.died ∷ refusals t s (CopyDir lock)) none
      in go (nat_eq lock 0) (get s.locks lock) refl (not-false (is_lock s lock) (not_refused InvalidLock _ no.1.0)) (not_refused ObjectInUse _ no.1.1.0) w
    where
      go : (b : Bool) (o : Option LockHold) → get s.locks lock ≡ o → b || is_some o ≡ true → cond b false (option_map_or (λ l. l.exclusive) o false) ≡ false
          → MatchBool b (result ≡ after t s (pos 0) Empty) (GivesLock t s (cond b (root t) (option_map_or (λ l. l.key) o 0)) false result) → IsProperAfter result
      go true o e held shared v = same (pos 0) Empty v
      go false None e held shared v = absurd (true≢false (sym held))
      go false (Some l) e held shared v = gives_lock l.key false (session.on_keys (ByLock lock) l.key l.exclusive (ap (option_map (λ l. (l.key, l.exclusive))) e)) (shared_free t s session lock l e shared) v

  pub locate : (lock : ℕ) (path : List ℕ) (mode : ℤ) → refusal t s (LocateObject lock path mode) ≡ None → Success t s (LocateObject lock path mode) now result → IsProperAfter result
  locate lock path mode none w =
      let no = none_refuses (refuse DeviceNotMounted s.died ∷ refusals t s (LocateObject lock path mode)) none
      in let held = not-false (is_lock s lock) (not_refused InvalidLock _ no.1.0)
      in gives_lock (object t s lock path) (is_exclusive_mode mode) (found_is_key t proper s session lock path _ held (no_error walk_error (found t s lock path) 0 no.1.1.0)) (not_in_use s _ _ (not_refused ObjectInUse _ no.1.1.1.0)) w

  pub find_input : (lock : ℕ) (path : List ℕ) → refusal t s (FindInput lock path) ≡ None → Success t s (FindInput lock path) now result → IsProperAfter result
  find_input lock path none w =
      let no = none_refuses (refuse DeviceNotMounted s.died ∷ refusals t s (FindInput lock path)) none
      in let held = not-false (is_lock s lock) (not_refused InvalidLock _ no.1.0)
      in gives_handle (object t s lock path) false (found_is_key t proper s session lock path _ held (no_error walk_error (found t s lock path) 0 no.1.1.0)) (not-false _ (not_refused ObjectWrongType _ no.1.1.1.0)) (not_in_use s _ _ (not_refused ObjectInUse _ no.1.1.1.1.0)) w

  pub parent : (lock : ℕ) → refusal t s (Parent lock) ≡ None → Success t s (Parent lock) now result → IsProperAfter result
  parent lock none w =
      let no = none_refuses (refuse DeviceNotMounted s.died ∷ refusals t s (Parent lock)) none
      in go (parent_of t (lock_key t s lock)) refl (not_refused ObjectInUse _ no.1.1.0) w
    where
      go : (o : Option ℕ) → parent_of t (lock_key t s lock) ≡ o → is_some_and (λ directory. is_held_exclusively s directory) o ≡ false
          → MatchOption o (result ≡ after t s (pos 0) Empty) (λ directory. GivesLock t s directory false result) → IsProperAfter result
      go None e free v = same (pos 0) Empty v
      go (Some directory) e free v = gives_lock directory false (parent_is_key t proper (lock_key t s lock) directory e) (not_in_use s directory false free) v

  pub end : (handle : ℕ) → Success t s (End handle) now result → IsProperAfter result
  end handle e = same_after result _ e (proper, proper_without_handle t s session handle)

  -- a handle moved within its file
  pub moved : (handle position : ℕ) → position ≤ size_of t (handle_key s handle) → IsProperSession t (at_position handle position s)
  moved handle position fits = go (get s.handles handle) refl fits
    where
      go : (o : Option HandleHold) → get s.handles handle ≡ o → position ≤ size_of t (option_map_or (λ h. h.key) o 0)
          → IsProperSession t (record s { handles = option_map_or (λ h. insert s.handles handle (record h { position = position })) o s.handles })
      go None e f = session
      go (Some h) e f = proper_moved t s session handle position h e f

  pub read : (handle : ℕ) (buffer : List ℕ) → refusal t s (Read handle buffer) ≡ None → Success t s (Read handle buffer) now result → IsProperAfter result
  read handle buffer none e = same_after result _ e (proper, moved handle _ (fits_in (short (handle_position s handle) (bytes_of t (handle_key s handle)) (file_end (handle_position s handle) (in_file (get s.handles handle) refl)))))
    where
      short : (p : ℕ) (bytes : List ℕ) → p ≤ length bytes → p + length (take (length buffer) (drop p bytes)) ≤ length bytes
      short p bytes fits = omega (arith, length-take (length buffer) (drop p bytes), length-drop p bytes)

      fits_in : {p : ℕ} → p ≤ length (bytes_of t (handle_key s handle)) → p ≤ size_of t (handle_key s handle)
      fits_in fits = omega (arith, fits, size_is (content_at t (handle_key s handle)))

      file_end : (p : ℕ) → p ≤ size_of t (handle_key s handle) → p ≤ length (bytes_of t (handle_key s handle))
      file_end p fits = omega (arith, fits, size_is (content_at t (handle_key s handle)))

      in_file : (o : Option HandleHold) → get s.handles handle ≡ o → option_map_or (λ h. h.position) o 0 ≤ size_of t (option_map_or (λ h. h.key) o 0)
      in_file None e = omega arith
      in_file (Some h) e = (session.on_files handle h e).1

  pub seek : (handle : ℕ) (offset mode : ℤ) → refusal t s (Seek handle offset mode) ≡ None → Success t s (Seek handle offset mode) now result → IsProperAfter result
  seek handle offset mode none e =
      let no = none_refuses (refuse DeviceNotMounted s.died ∷ refusals t s (Seek handle offset mode)) none
      in same_after result _ e (proper, moved handle _ (in_range (size_of t (handle_key s handle)) (seek_target (handle_position s handle) (size_of t (handle_key s handle)) offset mode) (not_refused SeekError _ no.1.1.0)))
    where
      in_range : (size : ℕ) (target : Option ℤ) → is_bad_target size target ≡ false → target_number target ≤ size
      in_range size None h = omega arith
      in_range size (Some (pos n)) h = leb-true n size (and_parts (int_le (pos 0) (pos n)) (int_le (pos n) (pos size)) (not-false _ h)).1
      in_range size (Some (negsuc n)) h = absurd (true≢false (sym (not-false _ h)))
