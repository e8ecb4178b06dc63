-- Walks from the root that go on, and that stay when a directory is made; and a path that is gone through once.
use Rattle.std.proofs.Common.{◌≡◌, ◌≢◌, ℕ, ◌+◌, ◌<◌, ◌≤◌, ◌==◌, ◌||◌, nat_lt, Bool, true, false, cond, Option, Some, None, Result, Ok, Err, List, [], ◌∷◌, ◌++◌, length, take, map, refl, sym, ap, ◌∙◌, subst, arith}
use Rattle.adf_import.proofs.Common.{AreDone, Changes, Date3, Directory, DosError, HasDirectory, HasKey, HasTree, IsName, IsUnused, MakesMissing, MatchResult, Shown, Stands, Tree, child_of, content_at, entries, is_file, made, make_refusal, object_at, one_tree, parent_of, place_at, root, true≢false}
use Rattle.std.proofs.lemmas.Bool.{eqb-true, le-ltb, ne_eqb}
use Rattle.std.proofs.lemmas.List.{append-nil, nil_from_length}
use Rattle.std.specs.List.{Contains, list_any}
use Rattle.std.specs.Prelude.{IfSome, IsSome, ok_or, slice_index}
use Rattle.ados_name.specs.Name.{Step, Step.ToChild, Step.ToParent, front, is_from_root, is_separator, is_slash, last_name, steps, steps_along, upper}
use Rattle.ados_model.proofs.Nodes.{directory_in}
use Rattle.ados_model.specs.Change.{and_then, holds_file, missing_before, place_in, step_from, walk_steps}
use Rattle.ados_model.specs.Resolved.{place_result, walk_result}
use Rattle.ados_model.specs.declared.dos_error.PlaceFault.TheVariants as faults
use Rattle.ados_model.specs.declared.dos_error.WalkFault.{WalkFault}
use Rattle.ados_model.specs.declared.dos_error.WalkFault.TheVariants.{DirectoryNotFound, ObjectNotFound, WrongType}
use Rattle.ados_volume.proofs.Children.{AllStay, child_there}
use Rattle.ados_volume.proofs.Looking.{is_child}
use Rattle.ados_volume.proofs.Moved.{made_child, made_stay}
use Rattle.ados_volume.proofs.Walking.{child_is_key}
use Rattle.adf_import.specs.Commands.{Makes, MakesAt}
use Rattle.adf_import.specs.Turns.{StopsAtPath}
use Rattle.adf_import.specs.Turns.AreDone.{none}
use Rattle.adf_import.specs.Ways.{ends_front, fronts, fronts_before}
use Rattle.adf_import.specs.declared.ways.Reached.{Reached}
use Rattle.adf_import.specs.steps.Reached.{IsBegin, IsClosed, IsMissing, IsReached, Leads}
use Rattle.adf_import.proofs.Finding.{at_found, changed_from}
use Rattle.adf_import.proofs.MissingAbove.{front_more, front_none, front_stops}
use Rattle.adf_import.proofs.Parts.{closed_behind, empty_steps, front_is, last_step, steps_before, steps_behind, taken, whole, whole_slash}

there_is : {E : Type 0} (o : Option ℕ) (fault : E) (key : ℕ) → ok_or o fault ≡ Ok key → o ≡ Some key
there_is None fault key e = absurd (cc e)
there_is (Some x) fault key e = cc e

-- a step to the child of a directory
pub child_step : (t : Tree) (at : ℕ) (name : List ℕ) (key : ℕ) (missing : WalkFault) → is_file t at ≡ false → child_of t at name ≡ Some key → step_from t at (ToChild name) missing ≡ Ok key
child_step t at name key missing directory child =
    ap (λ (b : Bool). cond b (Err WrongType) (ok_or (child_of t at name) missing)) directory ∙ ap (λ (o : Option ℕ). ok_or o missing) child

child_stepped : (t : Tree) (at : ℕ) (name : List ℕ) (key : ℕ) (missing : WalkFault) → step_from t at (ToChild name) missing ≡ Ok key → (is_file t at ≡ false) × (child_of t at name ≡ Some key)
child_stepped t at name key missing e = go (is_file t at) refl e
  where
    go : (b : Bool) → is_file t at ≡ b → cond b (Err WrongType) (ok_or (child_of t at name) missing) ≡ Ok key → (is_file t at ≡ false) × (child_of t at name ≡ Some key)
    go true is e = absurd (cc e)
    go false is e = (is, there_is (child_of t at name) missing key e)

-- a step that succeeds does not depend on the fault for a missing child
step_same : (t : Tree) (at : ℕ) (step : Step) (a b : WalkFault) (key : ℕ) → step_from t at step a ≡ Ok key → step_from t at step b ≡ Ok key
step_same t at ToParent a b key e = e
step_same t at (ToChild name) a b key e = let is = child_stepped t at name key a e in child_step t at name key b is.0 is.1

-- a walk goes on where its beginning leads
pub walk_on : (t : Tree) (from to : ℕ) (before more : List Step) (a b : WalkFault) → walk_steps t from before a ≡ Ok to → walk_steps t from (before ++ more) b ≡ walk_steps t to more b
walk_on t from to [] more a b e = let same : from ≡ to = cc e in ap (λ (k : ℕ). walk_steps t k more b) same
walk_on t from to (step ∷ rest) more a b e = go (step_from t from step (missing_before rest a)) refl e (λ next. walk_on t next to rest more a b)
  where
    go : (r : Result ℕ WalkFault) → step_from t from step (missing_before rest a) ≡ r → and_then r (λ next. walk_steps t next rest a) ≡ Ok to
        → ((next : ℕ) → walk_steps t next rest a ≡ Ok to → walk_steps t next (rest ++ more) b ≡ walk_steps t to more b)
        → walk_steps t from (step ∷ (rest ++ more)) b ≡ walk_steps t to more b
    go (Err fault) is e later = absurd (cc e)
    go (Ok next) is e later =
        ap (λ (r : Result ℕ WalkFault). and_then r (λ k. walk_steps t k (rest ++ more) b)) (step_same t from step (missing_before rest a) (missing_before (rest ++ more) b) next is) ∙ later next e

-- an object with entries is no file
lists : (t : Tree) (dir key : ℕ) → Contains (entries t dir) key → is_file t dir ≡ false
lists t dir key c = ap holds_file (directory_in (content_at t dir) key c).1

-- all entries stay
module _ (old new : List ℕ) (t u : Tree) (s : Stands old t) (r : Stands new u) (stay : AllStay t u) where
  step_stays : (at : ℕ) (step : Step) (missing : WalkFault) (key : ℕ) → step_from t at step missing ≡ Ok key → step_from u at step missing ≡ Ok key
  step_stays at ToParent missing key e =
      let up : parent_of t at ≡ Some key = there_is (parent_of t at) ObjectNotFound key e in
      ap (λ (o : Option ℕ). ok_or o ObjectNotFound) ((r.proper.listed key at).0 (stay key at ((s.proper.listed key at).1 up)).0)
  step_stays at (ToChild name) missing key e =
      let was = child_there t at key name (child_stepped t at name key missing e).1 in
      let now = stay at key was.0 in
      child_step u at name key missing (lists u at key now.0) (is_child new u r at key name now.0 (ap (map upper) now.1 ∙ was.1))

  walk_stays : (from to : ℕ) (walked : List Step) (last : WalkFault) → walk_steps t from walked last ≡ Ok to → walk_steps u from walked last ≡ Ok to
  walk_stays from to [] last e = e
  walk_stays from to (step ∷ rest) last e = go (step_from t from step (missing_before rest last)) refl e (λ next. walk_stays next to rest last)
    where
      go : (x : Result ℕ WalkFault) → step_from t from step (missing_before rest last) ≡ x → and_then x (λ next. walk_steps t next rest last) ≡ Ok to
          → ((next : ℕ) → walk_steps t next rest last ≡ Ok to → walk_steps u next rest last ≡ Ok to) → walk_steps u from (step ∷ rest) last ≡ Ok to
      go (Err fault) is e later = absurd (cc e)
      go (Ok next) is e later = ap (λ (x : Result ℕ WalkFault). and_then x (λ k. walk_steps u k rest last)) (step_stays from step (missing_before rest last) next is) ∙ later next e

-- a directory is made at the end of a walk
module _ (old new : List ℕ) (t : Tree) (s : Stands old t) (moment : Date3) (dir key : ℕ) (name : List ℕ) (unused : IsUnused t key) (directory : HasDirectory old dir) (r : Stands new (made moment dir key name (Directory []) t)) where
  abbrev after : Tree
  after = made moment dir key name (Directory []) t

  new_child : child_of after dir name ≡ Some key
  new_child = made_child t s.proper moment dir key name (Directory []) unused.no_node refl (directory t s) new r

  pub made_key : HasKey new key
  made_key = λ u w. subst (λ (x : Tree). IsSome (x.nodes key)) (one_tree new after u r w) (child_is_key after r.proper dir name key new_child)

  pub made_leads : (before : List Step) → Leads old before dir → Leads new (before ++ ToChild name ∷ []) key
  made_leads before leads = λ u w.
      subst (λ (x : Tree). walk_steps x (root x) (before ++ ToChild name ∷ []) ObjectNotFound ≡ Ok key) (one_tree new after u r w)
      (walk_on after (root after) dir before (ToChild name ∷ []) ObjectNotFound ObjectNotFound
      (walk_stays old new t after s r (made_stay t s.proper moment dir key name (Directory []) unused.no_node) (root t) dir before ObjectNotFound (leads t s))
      ∙ ap (λ (x : Result ℕ WalkFault). and_then x (λ k. Ok k)) (child_step after dir name key ObjectNotFound (lists after dir key (child_there after dir key name new_child).0) new_child))

-- ---- the part of a path before a `/`

-- whatever the fault for a missing child, a walk that succeeds is the same
walk_same : (t : Tree) (from to : ℕ) (walked : List Step) (a b : WalkFault) → walk_steps t from walked a ≡ Ok to → walk_steps t from walked b ≡ Ok to
walk_same t from to walked a b e = ap (λ (ss : List Step). walk_steps t from ss b) (sym (append-nil walked)) ∙ walk_on t from to walked [] a b e

either_way : (b : Bool) (key : ℕ) → cond b key key ≡ key
either_way true key = refl
either_way false key = refl

has_length : (n : ℕ) → 1 ≤ n → n ≤ 30 → ((n == 0) || nat_lt 30 n) ≡ false
has_length n some few = ap (λ (b : Bool). b || nat_lt 30 n) (ne_eqb n 0 (λ e. omega (arith, e, some))) ∙ le-ltb 30 n few

module _ (image path : List ℕ) (at : ℕ) (from : Reached) (reached : IsReached image path at from) (inside : at < length path) (slash : slice_index path at ≡ 47) (counted : length (front (take at path)) ≡ from.len)
    (plain : list_any is_separator (last_name (take at path)) ≡ false) where
  abbrev before : List ℕ
  before = take from.len path

  abbrev last : List ℕ
  last = last_name (take at path)

  steps_here : steps (take at path) ≡ steps before ++ steps_along last
  steps_here = ap steps (whole path at from.len reached.within counted) ∙ steps_before before last reached.closed plain

  steps_slash : steps (take (at + 1) path) ≡ steps before ++ taken last ∷ []
  steps_slash = ap steps (whole_slash path at from.len reached.within counted inside slash) ∙ steps_behind before last reached.closed plain

  closed_slash : IsClosed (take (at + 1) path)
  closed_slash = subst IsClosed (sym (whole_slash path at from.len reached.within counted inside slash)) (closed_behind before last reached.closed plain)

  -- the object there
  object_here : (t : Tree) → Stands image t → object_at (take at path) t ≡ walk_result (walk_steps t from.key (steps_along last) ObjectNotFound)
  object_here t s =
      ap (λ (ss : List Step). walk_result (walk_steps t (root t) ss ObjectNotFound)) steps_here
      ∙ ap walk_result (walk_on t (root t) from.key (steps before) (steps_along last) ObjectNotFound ObjectNotFound (reached.leads t s))

  -- one more step
  leads_on : (key : ℕ) → ((t : Tree) → Stands image t → step_from t from.key (taken last) ObjectNotFound ≡ Ok key) → Leads image (steps (take (at + 1) path)) key
  leads_on key step = λ t s.
      ap (λ (ss : List Step). walk_steps t (root t) ss ObjectNotFound) steps_slash
      ∙ walk_on t (root t) from.key (steps before) (taken last ∷ []) ObjectNotFound ObjectNotFound (reached.leads t s)
      ∙ ap (λ (x : Result ℕ WalkFault). and_then x (λ k. Ok k)) (step t s)

  reached_on : (key : ℕ) → HasKey image key → ((t : Tree) → Stands image t → step_from t from.key (taken last) ObjectNotFound ≡ Ok key) → IsReached image path (at + 1) (record { len = at + 1; key = key })
  reached_on key has step = record { within = omega arith; key = has; closed = closed_slash; leads = leads_on key step }

  no_last : (length last == 0) ≡ true → last ≡ []
  no_last e = nil_from_length last (eqb-true (length last) 0 e)

  -- an empty part: the object is the one before, and its parent is next
  pub parent_found : true ≡ (length last == 0) → (key : ℕ) → HasKey image key → ((t : Tree) → Stands image t → Some key ≡ parent_of t from.key)
      → IsReached image path (at + 1) (record { len = at + 1; key = key }) × ((t : Tree) → Stands image t → (k : ℕ) × (object_at (take at path) t ≡ Ok k))
  parent_found empty key has parent =
      let none = no_last (sym empty) in (
        reached_on key has (λ t s. ap (λ (xs : List ℕ). step_from t from.key (taken xs) ObjectNotFound) none ∙ ap (λ (o : Option ℕ). ok_or o ObjectNotFound) (sym (parent t s))),
        λ t s. (from.key, object_here t s ∙ ap (λ (xs : List ℕ). walk_result (walk_steps t from.key (steps_along xs) ObjectNotFound)) none ∙ ap (λ (ss : List Step). walk_result (walk_steps t from.key ss ObjectNotFound)) empty_steps),
      )

  -- a part with bytes, in a directory
  module _ (some : false ≡ (length last == 0)) (directory : (t : Tree) → Stands image t → false ≡ is_file t from.key) where
    one_step : (xs : List ℕ) → false ≡ (length xs == 0) → list_any is_separator xs ≡ false → (taken xs ≡ ToChild xs) × (steps_along xs ≡ ToChild xs ∷ [])
    one_step [] bytes separators = absurd (true≢false (sym bytes))
    one_step (c ∷ cs) bytes separators = (refl, last_step c cs separators)

    steps_last : (taken last ≡ ToChild last) × (steps_along last ≡ ToChild last ∷ [])
    steps_last = one_step last some plain

    object_child : (t : Tree) → Stands image t → object_at (take at path) t ≡ walk_result (ok_or (child_of t from.key last) ObjectNotFound)
    object_child t s =
        object_here t s ∙ ap (λ (ss : List Step). walk_result (walk_steps t from.key ss ObjectNotFound)) steps_last.1
        ∙ ap (λ (b : Bool). walk_result (and_then (cond b (Err WrongType) (ok_or (child_of t from.key last) ObjectNotFound)) (λ k. Ok k))) (sym (directory t s))
        ∙ same (child_of t from.key last)
      where
        same : (o : Option ℕ) → walk_result (and_then (ok_or o ObjectNotFound) (λ k. Ok k)) ≡ walk_result (ok_or o ObjectNotFound)
        same None = refl
        same (Some k) = refl

    pub child_found : (name : List ℕ) → name ≡ last → (key : ℕ) → ((t : Tree) → Stands image t → Some key ≡ child_of t from.key name)
        → IsReached image path (at + 1) (record { len = at + 1; key = key }) × ((t : Tree) → Stands image t → (k : ℕ) × (object_at (take at path) t ≡ Ok k))
    child_found name is key child =
        let own : (t : Tree) → Stands image t → child_of t from.key last ≡ Some key = λ t s. ap (child_of t from.key) (sym is) ∙ sym (child t s) in (
          reached_on key (λ t s. child_is_key t s.proper from.key last key (own t s))
              (λ t s. ap (λ (step : Step). step_from t from.key step ObjectNotFound) steps_last.0 ∙ child_step t from.key last key ObjectNotFound (sym (directory t s)) (own t s)),
          λ t s. (key, object_child t s ∙ ap (λ (o : Option ℕ). walk_result (ok_or o ObjectNotFound)) (own t s)),
        )

    place_here : (t : Tree) → Stands image t → IsName last → place_at (take at path) t ≡ Ok (from.key, last)
    place_here t s valid =
        ap place_result (
        ap (λ (k : ℕ). place_in t (walk_steps t k (steps (front (take at path))) DirectoryNotFound) last) (either_way (is_from_root (take at path)) (root t))
        ∙ ap (λ (x : Result ℕ WalkFault). place_in t x last)
        (ap (λ (xs : List ℕ). walk_steps t (root t) (steps xs) DirectoryNotFound) (front_is path at from.len reached.within counted) ∙ walk_same t (root t) from.key (steps before) ObjectNotFound DirectoryNotFound (reached.leads t s))
        ∙ ap (λ (b : Bool). cond b (Err faults.WrongType) (cond ((length last == 0) || nat_lt 30 (length last)) (Err faults.InvalidName) (Ok (from.key, last)))) (sym (directory t s))
        ∙ ap (λ (b : Bool). cond b (Err faults.InvalidName) (Ok (from.key, last))) (has_length (length last) valid.not_empty valid.short)
        )

    pub child_missing : (name : List ℕ) → name ≡ last → IsName name → HasDirectory image from.key → ((t : Tree) → Stands image t → None ≡ child_of t from.key name) → IsMissing image path at from.key name
    child_missing name is valid has child = record {
      directory = has;
      missing = λ t s. (_, object_child t s ∙ ap (λ (o : Option ℕ). walk_result (ok_or o ObjectNotFound)) (ap (child_of t from.key) (sym is) ∙ sym (child t s)));
      place = λ t s. subst (λ (xs : List ℕ). place_at (take at path) t ≡ Ok (from.key, xs)) (sym is) (place_here t s (subst IsName is valid));
      closed = closed_slash;
      before = steps before;
      walked = steps_slash ∙ ap (λ (step : Step). steps before ++ step ∷ []) (steps_last.0 ∙ ap ToChild (sym is));
      leads = reached.leads;
    }

-- ---- a directory that is made where there is none

module _ (moment : Date3) (path : List ℕ) (at dir : ℕ) (name : List ℕ) (old looked new : Shown) (m : IsMissing old.image path at dir name) (same : looked ≡ old) where
  abbrev Made : Result ℕ DosError → Type 0
  Made r = Changes (make_refusal dir name) (λ key t. made moment dir key name (Directory []) t) looked new r

  looked_at : (t : Tree) → Stands old.image t → Stands looked.image t
  looked_at t s = subst (λ (v : Shown). Stands v.image t) (sym same) s

  made_at : (r : Result ℕ DosError) → Made r → MakesAt moment (take at path) old new r
  made_at r changes = λ t s.
      at_found _ _ (place_at (take at path) t) (dir, name) (m.place t s) (changed_from (make_refusal dir name) (λ key t. made moment dir key name (Directory []) t) old looked new r same changes)

  is_missing : (r : Result Unit DosError) → Makes moment (take at path) old new r → MakesMissing moment (take at path) old new r
  is_missing r makes = λ t s.
      subst (λ (x : Result ℕ DosError). MatchResult x (λ _. (new ≡ old) × (r ≡ Ok tt)) (λ _. Makes moment (take at path) old new r)) (sym (m.missing t s).1) makes

  pub missing_made : (key : ℕ) → Made (Ok key) → ((t : Tree) → Stands looked.image t → IsUnused t key) → MakesMissing moment (take at path) old new (Ok tt)
  missing_made key changes unused = is_missing (Ok tt) (key, made_at (Ok key) changes, λ t s. unused t (looked_at t s))

  pub missing_refused : (error : DosError) → Made (Err error) → MakesMissing moment (take at path) old new (Err error)
  missing_refused error changes = is_missing (Err error) (made_at (Err error) changes)

  pub made_reached : (key : ℕ) → Made (Ok key) → ((t : Tree) → Stands looked.image t → IsUnused t key) → HasTree old.image → IsReached new.image path (at + 1) (record { len = at + 1; key = key })
  made_reached key changes unused tree =
      let t = tree.0 in
      let s = looked_at t tree.1 in
      let r = (changes.0 t s).1 in
      record {
        within = omega arith;
        key = made_key old.image new.image t tree.1 moment dir key name (unused t s) m.directory r;
        closed = m.closed;
        leads = λ u w. ap (λ (ss : List Step). walk_steps u (root u) ss ObjectNotFound) m.walked ∙ made_leads old.image new.image t tree.1 moment dir key name (unused t s) m.directory r m.before m.leads u w;
      }

-- ---- the loop over a path

-- the directories on the way that end before this byte are made, and from it on each `/` ends the path of one
pub record AreMade (moment : Date3) (path : List ℕ) (at : ℕ) (known : Option Reached) (old new : Shown) : Type 0 where
  pub within : at ≤ length path
  pub slashes : (i : ℕ) → at ≤ i → i < length path → ends_front path i ≡ is_slash (slice_index path i)
  pub done : AreDone (MakesMissing moment) (fronts_before path at) old new
  pub reached : IfSome known (IsReached new.image path at)

pub made_begin : (moment : Date3) (path : List ℕ) (begin key : ℕ) (old : Shown) → IsBegin path begin → HasKey old.image key → ((t : Tree) → Stands old.image t → key ≡ root t)
    → AreMade moment path begin (Some (record { len = begin; key = key })) old old
made_begin moment path begin key old h has is = record {
  within = h.within;
  slashes = h.slashes;
  done = subst (λ (fs : List (List ℕ)). AreDone (MakesMissing moment) fs old old) (sym h.none) none;
  reached = record {
    within = omega arith;
    key = has;
    closed = h.closed;
    leads = λ t s. ap (λ (ss : List Step). walk_steps t (root t) ss ObjectNotFound) h.no_steps ∙ ap Ok (sym (is t s));
  };
}

module _ (moment : Date3) (path : List ℕ) (at : ℕ) (known : Option Reached) (old between : Shown) (h : AreMade moment path at known old between) where
  ends : at < length path → slice_index path at ≡ 47 → ends_front path at ≡ true
  ends inside slash = h.slashes at (omega arith) inside ∙ ap is_slash slash

  pub made_on : (new : Shown) (next : Option Reached) → at < length path → slice_index path at ≡ 47 → MakesMissing moment (take at path) between new (Ok tt) → HasTree new.image
      → IfSome next (IsReached new.image path (at + 1)) → AreMade moment path (at + 1) next old new
  made_on new next inside slash makes has reached = record {
    within = omega (arith, inside);
    slashes = λ i later. h.slashes i (omega (arith, later));
    done = front_more moment path at old between h.done new (ends inside slash) makes has;
    reached = reached;
  }

  pub made_past : at < length path → slice_index path at ≢ 47 → AreMade moment path (at + 1) known old between
  made_past inside other = record {
    within = omega (arith, inside);
    slashes = λ i later. h.slashes i (omega (arith, later));
    done = front_none moment path at old between h.done (h.slashes at (omega arith) inside ∙ ne_eqb (slice_index path at) 47 other);
    reached = still known h.reached;
  }
    where
      still : (o : Option Reached) → IfSome o (IsReached between.image path at) → IfSome o (IsReached between.image path (at + 1))
      still None r = r
      still (Some from) r = let within = r.within in record { within = omega (arith, within); key = r.key; closed = r.closed; leads = r.leads }

  pub made_all : length path ≤ at → AreDone (MakesMissing moment) (fronts path) old between
  made_all end =
      let within = h.within in
      let e : at ≡ length path = omega (arith, end, within) in
      subst (λ (n : ℕ). AreDone (MakesMissing moment) (fronts_before path n) old between) e h.done

  pub made_stops : (new : Shown) (error : DosError) → at < length path → slice_index path at ≡ 47 → MakesMissing moment (take at path) between new (Err error) → StopsAtPath (MakesMissing moment) (fronts path) old new error
  made_stops new error inside slash refused = front_stops moment path at old between h.done new error inside (ends inside slash) refused
