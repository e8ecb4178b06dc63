-- A new hold, a freed hold and a moved handle keep a session proper.
use Rattle.std.proofs.Common.{◌≡◌, ◌≢◌, ◌⊎◌, ℕ, ◌≤◌, Bool, true, false, cond, List, [], ◌∷◌, ◌++◌, map, nat_eq, Some, None, refl, sym, ap, ◌∙◌, inl, inr, arith, subst, eq-eqb}
use Rattle.std.specs.Prelude.{◌&&◌, ◌||◌}
use Rattle.std.specs.Option.{option_map}
use Rattle.std.specs.FinMap.{get, entries}
use Rattle.ados_handler.proofs.Common.{Option, IsSome, is_some, list_any, nat_cmp, eq_by_cmp, nat_cmp_total, FinMap, insert, remove, find, get-entries, get-insert, get-remove, none-some, same_Some, eqb_tells, nat_tests, true≢false, or_parts, Tree, size_of, is_file, Session, holds, is_held, is_held_exclusively, is_in_use, with_lock, without_lock, with_handle, without_handle, LockHold, HandleHold, HoldNumber, hold_at, IsProperSession, ByLock, ByHandle}

tied : (q k : ℕ) → q ≡ k → eq_by_cmp nat_cmp q k ≡ true
tied q k e = grind (arith, nat_tests)

apart : (q k : ℕ) → q ≢ k → eq_by_cmp nat_cmp q k ≡ false
apart q k h = grind (arith, nat_tests)

-- comparison finds exactly equal numbers equal
pub number_tells : (q k : ℕ) → ((eq_by_cmp nat_cmp q k ≡ true) × (q ≡ k)) ⊎ ((eq_by_cmp nat_cmp q k ≡ false) × (q ≢ k))
number_tells q k = elim (eqb_tells q k) [ inl w ↦ inl (tied q k w.1, w.1) | inr w ↦ inr (apart q k w.1, w.1) ]

pub list_any-append : {X : Type 0} (p : X → Bool) (xs ys : List X) → list_any p (xs ++ ys) ≡ false → (list_any p xs ≡ false) × (list_any p ys ≡ false)
list_any-append p [] ys h = (refl, h)
list_any-append p (x ∷ xs) ys h =
    let parts = or_parts (p x) _ h
    in let rest = list_any-append p xs ys parts.1
    in (ap (λ b. b || list_any p xs) parts.0 ∙ rest.0, rest.1)

-- if no value passes a test, no entry's value does
pub find_none_passes : {X Y : Type 0} (p : Y → Bool) (f : X → Y) (q : ℕ) (es : List (ℕ × X)) (x : X) → list_any p (map f (map (λ e. e.1) es)) ≡ false → find nat_cmp q es ≡ Some x → p (f x) ≡ false
find_none_passes p f q [] x none found = absurd (none-some x found)
find_none_passes p f q (e ∷ es) x none found =
    let parts = or_parts (p (f e.1)) _ none
    in elim (number_tells q e.0) [
      | inl w ↦ ap (λ v. p (f v)) (sym (same_Some e.1 x (sym (ap (λ b. cond b (Some e.1) (find nat_cmp q es)) w.0) ∙ found))) ∙ parts.0
      | inr w ↦ find_none_passes p f q es x parts.1 (sym (ap (λ b. cond b (Some e.1) (find nat_cmp q es)) w.0) ∙ found)
    ]

pub option_map_some : {A B : Type 0} (f : A → B) (o : Option A) (y : B) → option_map f o ≡ Some y → (x : A) × (o ≡ Some x) × (f x ≡ y)
option_map_some f None y h = absurd (none-some y h)
option_map_some f (Some x) y h = (x, refl, same_Some (f x) y h)

-- if no hold passes a test, the hold of no number does
pub none_passes : (s : Session) (p : ℕ × Bool → Bool) → list_any p (holds s) ≡ false → (hold : HoldNumber) (v : ℕ × Bool) → hold_at s hold ≡ Some v → p v ≡ false
none_passes s p none (ByLock n) v h =
    let is = option_map_some _ (get s.locks n) v h
    in ap p (sym is.2) ∙ find_none_passes p _ n (entries s.locks) is.0 (list_any-append p _ _ none).0 (sym (get-entries s.locks n) ∙ is.1)
none_passes s p none (ByHandle n) v h =
    let is = option_map_some _ (get s.handles n) v h
    in ap p (sym is.2) ∙ find_none_passes p _ n (entries s.handles) is.0 (list_any-append p _ _ none).1 (sym (get-entries s.handles n) ∙ is.1)

-- if an object is not held, no hold is on it
pub not_held : (s : Session) (key : ℕ) → is_held s key ≡ false → (hold : HoldNumber) (e : Bool) → hold_at s hold ≡ Some (key, e) → ⊥
not_held s key none hold e h = true≢false (sym (eq-eqb key key refl) ∙ none_passes s (λ v. nat_eq v.0 key) none hold (key, e) h)

-- if it is not held exclusively, each hold on it is shared
pub not_exclusive : (s : Session) (key : ℕ) → is_held_exclusively s key ≡ false → (hold : HoldNumber) (e : Bool) → hold_at s hold ≡ Some (key, e) → e ≡ false
not_exclusive s key none hold e h =
    ap (λ b. b && e) (sym (eq-eqb key key refl)) ∙ none_passes s (λ v. nat_eq v.0 key && v.1) none hold (key, e) h

-- a new hold on an object is possible: neither it nor another hold on the object is exclusive
abbrev pub IsFree : Session → ℕ → Bool → Type 0
IsFree s key exclusive = (hold : HoldNumber) (e : Bool) → hold_at s hold ≡ Some (key, e) → (exclusive ≡ false) × (e ≡ false)

-- it is possible if the object is not in use
pub not_in_use : (s : Session) (key : ℕ) (exclusive : Bool) → is_in_use s key exclusive ≡ false → IsFree s key exclusive
not_in_use s key true free hold e h = absurd (not_held s key free hold e h)
not_in_use s key false free hold e h = (refl, not_exclusive s key free hold e h)

-- the holds of a session with one more
pub record AddsHold (s new : Session) (number : HoldNumber) (key : ℕ) (exclusive : Bool) : Type 0 where
  pub cases : (hold : HoldNumber) (v : ℕ × Bool) → hold_at new hold ≡ Some v → ((hold ≡ number) × (v ≡ (key, exclusive))) ⊎ (hold_at s hold ≡ Some v)

-- a possible hold keeps exclusive holds alone
pub adds_alone : (s new : Session) (number : HoldNumber) (key : ℕ) (exclusive : Bool) → AddsHold s new number key exclusive → IsFree s key exclusive
    → ((a b : HoldNumber) (k : ℕ) (e : Bool) → hold_at s a ≡ Some (k, true) → hold_at s b ≡ Some (k, e) → a ≡ b)
    → (a b : HoldNumber) (k : ℕ) (e : Bool) → hold_at new a ≡ Some (k, true) → hold_at new b ≡ Some (k, e) → a ≡ b
adds_alone s new number key exclusive adds free alone a b k e at_a at_b =
    elim (adds.cases a (k, true) at_a) [
      | inl w ↦
          elim (adds.cases b (k, e) at_b) [
            | inl v ↦ w.0 ∙ sym v.0
            | inr v ↦
                let same_key : k ≡ key = ap (λ p. p.0) w.1
                in let not_both = free b e (subst (λ n. hold_at s b ≡ Some (n, e)) same_key v)
                in absurd (true≢false (ap (λ p. p.1) w.1 ∙ not_both.0))
          ]
      | inr w ↦
          elim (adds.cases b (k, e) at_b) [
            | inl v ↦
                let same_key : k ≡ key = ap (λ p. p.0) v.1
                in let not_both = free a true (subst (λ n. hold_at s a ≡ Some (n, true)) same_key w)
                in absurd (true≢false not_both.1)
            | inr v ↦ alone a b k e w v
          ]
    ]

-- the values of a map after an insertion, and after a removal
pub got_insert : {X : Type 0} (m : FinMap nat_cmp X) (k : ℕ) (v : X) (q : ℕ) (x : X) → get (insert m k v) q ≡ Some x → ((q ≡ k) × (x ≡ v)) ⊎ ((q ≢ k) × (get m q ≡ Some x))
got_insert m k v q x h =
    let e = sym (get-insert nat_cmp_total m k v q) ∙ h
    in elim (number_tells q k) [
      | inl w ↦ inl (w.1, sym (same_Some v x (sym (ap (λ b. cond b (Some v) (get m q)) w.0) ∙ e)))
      | inr w ↦ inr (w.1, sym (ap (λ b. cond b (Some v) (get m q)) w.0) ∙ e)
    ]

pub got_remove : {X : Type 0} (m : FinMap nat_cmp X) (k q : ℕ) (x : X) → get (remove m k) q ≡ Some x → (q ≢ k) × (get m q ≡ Some x)
got_remove m k q x h =
    let e = sym (get-remove nat_cmp_total m k q) ∙ h
    in elim (number_tells q k) [
      | inl w ↦ absurd (none-some x (sym (ap (λ b. cond b None (get m q)) w.0) ∙ e))
      | inr w ↦ (w.1, sym (ap (λ b. cond b None (get m q)) w.0) ∙ e)
    ]

abbrev lock_hold : LockHold → ℕ × Bool
lock_hold l = (l.key, l.exclusive)

abbrev handle_hold : HandleHold → ℕ × Bool
handle_hold h = (h.key, h.exclusive)

lock_cases : (s : Session) (n key : ℕ) (exclusive : Bool) (hold : HoldNumber) (v : ℕ × Bool) → hold_at (with_lock n key exclusive s) hold ≡ Some v
    → ((hold ≡ ByLock n) × (v ≡ (key, exclusive))) ⊎ (hold_at s hold ≡ Some v)
lock_cases s n key exclusive (ByLock m) v h =
    let is = option_map_some lock_hold _ v h
    in elim (got_insert s.locks n (record { key = key; exclusive = exclusive }) m is.0 is.1) [
      | inl w ↦ inl (ap ByLock w.0, sym is.2 ∙ ap lock_hold w.1)
      | inr w ↦ inr (ap (option_map lock_hold) w.1 ∙ ap Some is.2)
    ]
lock_cases s n key exclusive (ByHandle m) v h = inr h

handle_cases : (s : Session) (n key : ℕ) (exclusive : Bool) (hold : HoldNumber) (v : ℕ × Bool) → hold_at (with_handle n key exclusive s) hold ≡ Some v
    → ((hold ≡ ByHandle n) × (v ≡ (key, exclusive))) ⊎ (hold_at s hold ≡ Some v)
handle_cases s n key exclusive (ByHandle m) v h =
    let is = option_map_some handle_hold _ v h
    in elim (got_insert s.handles n (record { key = key; position = 0; exclusive = exclusive }) m is.0 is.1) [
      | inl w ↦ inl (ap ByHandle w.0, sym is.2 ∙ ap handle_hold w.1)
      | inr w ↦ inr (ap (option_map handle_hold) w.1 ∙ ap Some is.2)
    ]
handle_cases s n key exclusive (ByLock m) v h = inr h

module _ (t : Tree) (s : Session) (proper : IsProperSession t s) where
  -- a new lock
  pub proper_with_lock : (n key : ℕ) (exclusive : Bool) → IsSome (t.nodes key) → IsFree s key exclusive → IsProperSession t (with_lock n key exclusive s)
  proper_with_lock n key exclusive there free = record {
    on_keys = λ hold k e h. elim (lock_cases s n key exclusive hold (k, e) h) [
      | inl w ↦ ap (λ p. is_some (t.nodes p.0)) w.1 ∙ there
      | inr w ↦ proper.on_keys hold k e w
    ];
    on_files = proper.on_files;
    alone = adds_alone s (with_lock n key exclusive s) (ByLock n) key exclusive (record { cases = lock_cases s n key exclusive }) free proper.alone;
  }

  -- a new handle
  pub proper_with_handle : (n key : ℕ) (exclusive : Bool) → IsSome (t.nodes key) → is_file t key ≡ true → IsFree s key exclusive → IsProperSession t (with_handle n key exclusive s)
  proper_with_handle n key exclusive there file free = record {
    on_keys = λ hold k e h. elim (handle_cases s n key exclusive hold (k, e) h) [
      | inl w ↦ ap (λ p. is_some (t.nodes p.0)) w.1 ∙ there
      | inr w ↦ proper.on_keys hold k e w
    ];
    on_files = λ m h at_m. elim (got_insert s.handles n (record { key = key; position = 0; exclusive = exclusive }) m h at_m) [
      | inl w ↦ (ap (λ k. is_file t k.key) w.1 ∙ file, rw w.1 (omega arith))
      | inr w ↦ proper.on_files m h w.1
    ];
    alone = adds_alone s (with_handle n key exclusive s) (ByHandle n) key exclusive (record { cases = handle_cases s n key exclusive }) free proper.alone;
  }

  fewer_locks : (n : ℕ) (hold : HoldNumber) (v : ℕ × Bool) → hold_at (without_lock n s) hold ≡ Some v → hold_at s hold ≡ Some v
  fewer_locks n (ByLock m) v h = let is = option_map_some lock_hold _ v h in ap (option_map lock_hold) (got_remove s.locks n m is.0 is.1).1 ∙ ap Some is.2
  fewer_locks n (ByHandle m) v h = h

  fewer_handles : (n : ℕ) (hold : HoldNumber) (v : ℕ × Bool) → hold_at (without_handle n s) hold ≡ Some v → hold_at s hold ≡ Some v
  fewer_handles n (ByHandle m) v h = let is = option_map_some handle_hold _ v h in ap (option_map handle_hold) (got_remove s.handles n m is.0 is.1).1 ∙ ap Some is.2
  fewer_handles n (ByLock m) v h = h

  -- one lock or handle less
  pub proper_without_lock : (n : ℕ) → IsProperSession t (without_lock n s)
  proper_without_lock n = record {
    on_keys = λ hold k e h. proper.on_keys hold k e (fewer_locks n hold (k, e) h);
    on_files = proper.on_files;
    alone = λ a b k e at_a at_b. proper.alone a b k e (fewer_locks n a (k, true) at_a) (fewer_locks n b (k, e) at_b);
  }

  pub proper_without_handle : (n : ℕ) → IsProperSession t (without_handle n s)
  proper_without_handle n = record {
    on_keys = λ hold k e h. proper.on_keys hold k e (fewer_handles n hold (k, e) h);
    on_files = λ m h at_m. proper.on_files m h (got_remove s.handles n m h at_m).1;
    alone = λ a b k e at_a at_b. proper.alone a b k e (fewer_handles n a (k, true) at_a) (fewer_handles n b (k, e) at_b);
  }

  moved_holds : (n position : ℕ) (h : HandleHold) → get s.handles n ≡ Some h → (hold : HoldNumber) (v : ℕ × Bool)
      → hold_at (record s { handles = insert s.handles n (record h { position = position }) }) hold ≡ Some v → hold_at s hold ≡ Some v
  moved_holds n position h at_n (ByLock m) v e = e
  moved_holds n position h at_n (ByHandle m) v e =
      let is = option_map_some handle_hold _ v e
      in elim (got_insert s.handles n (record h { position = position }) m is.0 is.1) [
        | inl w ↦ ap (λ k. option_map handle_hold (get s.handles k)) w.0 ∙ ap (option_map handle_hold) at_n ∙ ap (λ x. Some (handle_hold x)) (sym w.1) ∙ ap Some is.2
        | inr w ↦ ap (option_map handle_hold) w.1 ∙ ap Some is.2
      ]

  -- a handle at another position of its file
  pub proper_moved : (n position : ℕ) (h : HandleHold) → get s.handles n ≡ Some h → position ≤ size_of t h.key
      → IsProperSession t (record s { handles = insert s.handles n (record h { position = position }) })
  proper_moved n position h at_n fits = record {
    on_keys = λ hold k e w. proper.on_keys hold k e (moved_holds n position h at_n hold (k, e) w);
    on_files = λ m x at_m. elim (got_insert s.handles n (record h { position = position }) m x at_m) [
      | inl w ↦ (ap (λ k. is_file t k.key) w.1 ∙ (proper.on_files n h at_n).0, rw w.1 fits)
      | inr w ↦ proper.on_files m x w.1
    ];
    alone = λ a b k e at_a at_b. proper.alone a b k e (moved_holds n position h at_n a (k, true) at_a) (moved_holds n position h at_n b (k, e) at_b);
  }

-- an object with a shared lock can be held once more
pub shared_free : (t : Tree) (s : Session) → IsProperSession t s → (lock : ℕ) (l : LockHold) → get s.locks lock ≡ Some l → l.exclusive ≡ false → IsFree s l.key false
shared_free t s session lock l at shared hold exclusive at_hold = (refl, is_shared exclusive at_hold)
  where
    is_shared : (b : Bool) → hold_at s hold ≡ Some (l.key, b) → b ≡ false
    is_shared false h = refl
    is_shared true h =
        let own : hold_at s (ByLock lock) ≡ Some (l.key, l.exclusive) = ap (option_map (λ l. (l.key, l.exclusive))) at in
        let same_hold : hold ≡ ByLock lock = session.alone hold (ByLock lock) l.key l.exclusive h own in
        let both : Some (l.key, true) ≡ Some (l.key, l.exclusive) = sym h ∙ ap (hold_at s) same_hold ∙ own in
        ap (λ p. p.1) (same_Some _ _ both) ∙ shared
