-- Packets that make an entry, or find the existing file, keep tree and session proper.
use Rattle.std.proofs.Common.{◌≡◌, ◌≢◌, ℕ, inl, inr, Bool, true, false, cond, nat_lt, ◌==◌, List, [], ◌∷◌, length, Option, Some, None, Result, Ok, Err, IsSome, is_some, option_map, MatchOption, refl, sym, ap, ◌∙◌, subst, arith}
use Rattle.std.specs.Prelude.{◌||◌}
use Rattle.ados_handler.proofs.Common.{result_err, cases_eq, false≢true, true≢false, not-false, Date3, IsName, front, last_name, steps, IsPathText, Content, Node, Tree, Proper, IsUnused, size_in, Directory, File, child_of, holds_file, is_file, place_in, start_of, walk_steps, listed, made, rewritten, with_node, new_node, WalkFault, CanMake, IsDirectoryKey, IsEmpty, nodes_here, nodes_other, relisted, DeviceNotMounted, InvalidLock, ObjectExists, ObjectInUse, ObjectWrongType, CreateDir, FindUpdate, FindOutput, Session, is_in_use, is_lock, lock_key, place_error, placed, spot_directory, spot_name, standing, spot, refuse, refusals, is_some_and, is_directory_there, After, GivesHandle, GivesLock, IsNewKey, MakesFile, no_child_new, none_refuses, none_there, not_refused, HoldNumber, hold_at, IsProperSession, KeepsProper, child_is_key}
use Rattle.ados_model.specs.declared.dos_error.WalkFault.TheVariants.{DirectoryNotFound}
use Rattle.ados_model.specs.declared.dos_error.PlaceFault.TheVariants as faults
use Rattle.ados_change.proofs.ProperChanges.{directory_at, dir_not_key, made_is_proper}
use Rattle.ados_handler.proofs.Holding.{IsFree, not_in_use, not_held, proper_with_handle, proper_with_lock}
use Rattle.ados_handler.proofs.Walked.{no_error, start_is_key, walk_key}
use Rattle.ados_handler.proofs.Reading.{IsProperAfter, same_after, by_success}
use Rattle.ados_handler.proofs.Carrying.{Carried, carried_beside, carried_changed, carried_new, carried_on, carried_session}
use Rattle.ados_handler.proofs.Named.{last_is_name}
use Rattle.ados_handler.proofs.Rewriting.{file_node, rewritten_proper, rewritten_here, rewritten_is_file, rewritten_other}

-- ---- places

-- a directory with a name
pub record IsSpot (t : Tree) (there : ℕ × List ℕ) : Type 0 where
  pub node : IsSome (t.nodes there.0)
  pub no_file : is_file t there.0 ≡ false
  pub name : IsName there.1

module _ (t : Tree) (path : List ℕ) (valid : IsPathText path) where
  in_place : (key : ℕ) → IsSome (t.nodes key) → (p : ℕ × List ℕ) → place_in t (Ok key) (last_name path) ≡ Ok p → IsSpot t p
  in_place key there p e = go (is_file t key) refl (length (last_name path) == 0) refl (nat_lt 30 (length (last_name path))) refl e
    where
      go : (b : Bool) → is_file t key ≡ b → (c : Bool) → (length (last_name path) == 0) ≡ c → (d : Bool) → nat_lt 30 (length (last_name path)) ≡ d
          → cond b (Err faults.WrongType) (cond (c || d) (Err faults.InvalidName) (Ok (key, last_name path))) ≡ Ok p → IsSpot t p
      go false f false g false h w =
          let same : (key, last_name path) ≡ p = cc w in
          subst (IsSpot t) same (record { node = there; no_file = f; name = last_is_name path valid g h })
      go b f c g d h w = absurd (cc w)

  from_walk : (r : Result ℕ WalkFault) → ((key : ℕ) → r ≡ Ok key → IsSome (t.nodes key)) → (p : ℕ × List ℕ) → place_in t r (last_name path) ≡ Ok p → IsSpot t p
  from_walk (Ok key) there p e = in_place key (there key refl) p e
  from_walk (Err fault) there p e = absurd (cc e)

-- the place of a path that is not refused
pub spot_is : (t : Tree) → Proper t → (s : Session) → IsProperSession t s → (lock : ℕ) (path : List ℕ) → IsPathText path → is_lock s lock ≡ true → option_map place_error (result_err (placed t s lock path)) ≡ None → IsSpot t (spot t s lock path)
spot_is t proper s session lock path valid held none =
    from_walk t path valid (walk_steps t (start_of t (lock_key t s lock) path) (steps (front path)) DirectoryNotFound)
    (λ key e. walk_key t proper (start_of t (lock_key t s lock) path) (steps (front path)) DirectoryNotFound key (start_is_key t proper s session lock path held) e)
    (spot t s lock path) (no_error place_error (placed t s lock path) (0, []) none)

pub is_directory : (t : Tree) (key : ℕ) → IsSome (t.nodes key) → is_file t key ≡ false → IsDirectoryKey t key
is_directory t key = go (t.nodes key)
  where
    go : (o : Option Node) → IsSome o → holds_file (option_map (λ node. node.content) o) ≡ false → (keys : List ℕ) × (option_map (λ node. node.content) o ≡ Some (Directory keys))
    go None h f = absurd (false≢true h)
    go (Some a) h f = by_content a.content f
      where
        by_content : (c : Content) → holds_file (Some c) ≡ false → (keys : List ℕ) × (Some c ≡ Some (Directory keys))
        by_content (Directory keys) f = (keys, refl)
        by_content (File bytes) f = absurd (true≢false f)

-- ---- a new entry

-- a directory with another list is still a directory, and each other object is unchanged
pub carried_listed : (t : Tree) (moment : Date3) (dir : ℕ) (keys : List ℕ) → IsDirectoryKey t dir → (k : ℕ) → Carried (t.nodes k) ((listed moment dir keys t).nodes k)
carried_listed t moment dir keys is = carried_changed t dir (relisted moment keys) (λ a at.
    let d = directory_at t dir is in
    let same : d.node ≡ a = cc (d.at, at) in
    let content : a.content ≡ Directory d.keys = ap (λ (b : Node). b.content) (sym same) ∙ d.content in
    let no_size : size_in (Some a.content) ≡ 0 = ap (λ (c : Content). size_in (Some c)) content in
    record {
      node = λ h. h;
      file = λ h. absurd (false≢true (sym (ap (λ (c : Content). holds_file (Some c)) content) ∙ h));
      size = omega (arith, no_size);
    })

module _ (t : Tree) (s : Session) (proper : Proper t) (session : IsProperSession t s) (moment : Date3) (dir key : ℕ) (name : List ℕ) (content : Content) (can : CanMake t dir name) (fresh : IsNewKey t key) (empty : IsEmpty content) where
  abbrev grown_tree : Tree
  grown_tree = made moment dir key name content t

  abbrev begun : Tree
  begun = with_node key (Some (new_node moment dir name content)) t

  unused : IsUnused t key
  unused = record { inside = fresh.0; no_node = fresh.1 }

  grown_proper : Proper grown_tree
  grown_proper = made_is_proper t moment dir key name content proper can unused empty

  not_key : dir ≢ key
  not_key = dir_not_key t moment dir key name content proper can unused empty

  begun_carried : (k : ℕ) → Carried (t.nodes k) (begun.nodes k)
  begun_carried k = elim (cases_eq k key) [
    | inl same ↦ subst (λ (o : Option Node). Carried o (begun.nodes k)) (sym (ap t.nodes same ∙ fresh.1)) (carried_new (begun.nodes k))
    | inr other ↦ carried_beside t key (Some (new_node moment dir name content)) k other
  ]

  begun_directory : IsDirectoryKey begun dir
  begun_directory = (can.directory.0, ap (λ (o : Option Node). option_map (λ node. node.content) o) (nodes_other key (Some (new_node moment dir name content)) t dir not_key) ∙ can.directory.1)

  made_carried : (k : ℕ) → Carried (t.nodes k) (grown_tree.nodes k)
  made_carried k = carried_on (t.nodes k) (begun.nodes k) (grown_tree.nodes k) (begun_carried k) (carried_listed begun moment dir _ begun_directory k)

  -- the new node
  here : grown_tree.nodes key ≡ Some (new_node moment dir name content)
  here = nodes_other dir _ begun key (λ e. not_key (sym e)) ∙ nodes_here key (Some (new_node moment dir name content)) t

  holds_kept : IsProperSession grown_tree s
  holds_kept = carried_session t grown_tree s session (λ hold k e h. made_carried k)

  -- the new key is not held
  unheld : (exclusive : Bool) → IsFree s key exclusive
  unheld exclusive hold e h = absurd (false≢true (sym (ap is_some fresh.1) ∙ session.on_keys hold key e h))

  pub made_lock : (exclusive : Bool) (result : After) → GivesLock grown_tree s key exclusive result → IsProperAfter result
  made_lock exclusive result w = same_after result _ w.2 (grown_proper, proper_with_lock grown_tree s holds_kept w.0 key exclusive (ap is_some here) (unheld exclusive))

  pub made_handle : (exclusive : Bool) (result : After) → holds_file (Some content) ≡ true → GivesHandle grown_tree s key exclusive result → IsProperAfter result
  made_handle exclusive result file w =
      same_after result _ w.2 (grown_proper, proper_with_handle grown_tree s holds_kept w.0 key exclusive (ap is_some here) (ap (λ (o : Option Node). holds_file (option_map (λ node. node.content) o)) here ∙ file) (unheld exclusive))

can_make : (t : Tree) (there : ℕ × List ℕ) → IsSpot t there → child_of t there.0 there.1 ≡ None → CanMake t there.0 there.1
can_make t there is none = record { directory = is_directory t there.0 is.node is.no_file; valid = is.name; new_name = no_child_new t there.0 there.1 none }

pub create_dir_keeps : (lock : ℕ) (path : List ℕ) → IsPathText path → KeepsProper (CreateDir lock path)
create_dir_keeps lock path valid = by_success (CreateDir lock path) (λ t s now result proper session none w.
    let no = none_refuses (refuse DeviceNotMounted s.died ∷ refusals t s (CreateDir lock path)) none in
    let is = spot_is t proper s session lock path valid (not-false (is_lock s lock) (not_refused InvalidLock _ no.1.0)) no.1.1.0 in
    let new = none_there (standing t s lock path) (not_refused ObjectExists _ no.1.1.1.0) in
    made_lock t s proper session now (spot_directory t s lock path) w.0 (spot_name t s lock path) (Directory []) (can_make t (spot t s lock path) is new) w.1 refl true result w.2)

makes_file : (t : Tree) (s : Session) (now : Date3) (result : After) → Proper t → IsProperSession t s → (there : ℕ × List ℕ) → IsSpot t there → child_of t there.0 there.1 ≡ None → (exclusive : Bool) → MakesFile t s there.0 there.1 exclusive now result → IsProperAfter result
makes_file t s now result proper session there is none exclusive w =
    made_handle t s proper session now there.0 w.0 there.1 (File []) (can_make t there is none) w.1 refl exclusive result refl w.2

pub find_update_keeps : (lock : ℕ) (path : List ℕ) → IsPathText path → KeepsProper (FindUpdate lock path)
find_update_keeps lock path valid = by_success (FindUpdate lock path) (λ t s now result proper session none w.
    let no = none_refuses (refuse DeviceNotMounted s.died ∷ refusals t s (FindUpdate lock path)) none in
    let is = spot_is t proper s session lock path valid (not-false (is_lock s lock) (not_refused InvalidLock _ no.1.0)) no.1.1.0 in
    go t s now result proper session (spot t s lock path) is (standing t s lock path) refl (not_refused ObjectWrongType _ no.1.1.1.0) (not_refused ObjectInUse _ no.1.1.1.1.0) w)
  where
    go : (t : Tree) (s : Session) (now : Date3) (result : After) → Proper t → IsProperSession t s → (there : ℕ × List ℕ) → IsSpot t there → (o : Option ℕ) → child_of t there.0 there.1 ≡ o
        → is_directory_there t o ≡ false → is_some_and (λ key. is_in_use s key false) o ≡ false
        → MatchOption o (MakesFile t s there.0 there.1 false now result) (λ key. GivesHandle t s key false result) → IsProperAfter result
    go t s now result proper session there is None e type free w = makes_file t s now result proper session there is e false w
    go t s now result proper session there is (Some key) e type free w =
        same_after result _ w.2 (proper, proper_with_handle t s session w.0 key false (child_is_key t proper there.0 there.1 key e) (not-false (is_file t key) type) (not_in_use s key false free))

pub find_output_keeps : (lock : ℕ) (path : List ℕ) → IsPathText path → KeepsProper (FindOutput lock path)
find_output_keeps lock path valid = by_success (FindOutput lock path) (λ t s now result proper session none w.
    let no = none_refuses (refuse DeviceNotMounted s.died ∷ refusals t s (FindOutput lock path)) none in
    let is = spot_is t proper s session lock path valid (not-false (is_lock s lock) (not_refused InvalidLock _ no.1.0)) no.1.1.0 in
    go t s now result proper session (spot t s lock path) is (standing t s lock path) refl (not_refused ObjectWrongType _ no.1.1.1.0) (not_refused ObjectInUse _ no.1.1.1.1.0) w)
  where
    emptied : (t : Tree) (s : Session) (now : Date3) (result : After) → Proper t → IsProperSession t s → (key : ℕ) → is_file t key ≡ true → is_in_use s key true ≡ false → GivesHandle (rewritten now key [] t) s key true result → IsProperAfter result
    emptied t s now result proper session key file free w =
        let f = file_node t key file in
        let u = rewritten now key [] t in
        let others : (hold : HoldNumber) (k : ℕ) (e : Bool) → hold_at s hold ≡ Some (k, e) → k ≢ key = λ hold k e h same. not_held s key free hold e (subst (λ (i : ℕ). hold_at s hold ≡ Some (i, e)) same h) in
        let holds = carried_session t u s session (λ hold k e h. rewritten_other t proper key f [] now k (others hold k e h)) in
        same_after result _ w.2 (
          rewritten_proper t proper key f [] now,
          proper_with_handle u s holds w.0 key true (ap is_some (rewritten_here t proper key f [] now)) (rewritten_is_file t proper key f [] now) (not_in_use s key true free),
        )

    go : (t : Tree) (s : Session) (now : Date3) (result : After) → Proper t → IsProperSession t s → (there : ℕ × List ℕ) → IsSpot t there → (o : Option ℕ) → child_of t there.0 there.1 ≡ o
        → is_directory_there t o ≡ false → is_some_and (λ key. is_in_use s key true) o ≡ false
        → MatchOption o (MakesFile t s there.0 there.1 true now result) (λ key. GivesHandle (rewritten now key [] t) s key true result) → IsProperAfter result
    go t s now result proper session there is None e type free w = makes_file t s now result proper session there is e true w
    go t s now result proper session there is (Some key) e type free w = emptied t s now result proper session key (not-false (is_file t key) type) free w
