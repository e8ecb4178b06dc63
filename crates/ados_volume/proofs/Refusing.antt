-- Lists of refusals. An entry that none of them excludes can be made, removed or moved.
use Rattle.std.proofs.lemmas.List.Folds.{list_any_none}
use Rattle.ados_volume.proofs.Common.{All-from_get_or, All-get_or, Bool, CanMake, CanRemove, CanRename, Contains, Contains-cases, Contains-nil, HasDirectory, IsDirectoryKey, IsName, IsNameByte, IsNewName, IsSome, List, Node, None, Option, Proper, Same, Some, Stands, Tree, [], ap, arith, bytes_eq-Decides, child_of, cond, content_in, entries, eq-eqb, eqb-true, false, find, inl, inr, is_separator, is_some, le-ltb, length, list_any, map, name_of, nat_eq, ne_eqb, none-some, not, not-false, parent_of, refl, root, root_or_parent, some_in, subst, sym, true, true≢false, upper, ℕ, ◌==◌, ◌∙◌, ◌∷◌, ◌≡◌, ◌≢◌}
use Rattle.ados_name.proofs.NameLemmas.{no_separator}
use Rattle.ados_model.specs.declared.dos_error.DosError.{DosError}
use Rattle.ados_model.specs.declared.dos_error.DosError.TheVariants.{DirectoryNotEmpty, ObjectExists, ObjectInUse, ObjectWrongType}
use Rattle.ados_model.specs.Refusals.{first_refusal, is_empty, is_name, is_some_and, refuse}
use Rattle.ados_volume.specs.Refusals.{move_refusals, remove_refusals}
use Rattle.ados_volume.proofs.Children.{child_there}
use Rattle.ados_volume.proofs.Under.{under_is_told}

-- no refusal in the list holds
abbrev pub NoneRefuses : List (Option DosError) → Type 0
NoneRefuses [] = Unit {0}
NoneRefuses (o ∷ more) = (o ≡ None) × NoneRefuses more

-- a list without a first refusal has none that holds
pub none_refuses : (list : List (Option DosError)) → first_refusal list ≡ None → NoneRefuses list
none_refuses [] h = tt
none_refuses (None ∷ more) h = (refl, none_refuses more h)
none_refuses (Some c ∷ more) h = absurd (none-some c (sym h))

pub not_refused : (code : DosError) (b : Bool) → refuse code b ≡ None → b ≡ false
not_refused code true h = absurd (none-some code (sym h))
not_refused code false h = refl

-- a refusal that does not hold is skipped, and one that holds refuses
pub passed : (code : DosError) (test : Bool) (more : List (Option DosError)) → test ≡ false → first_refusal (refuse code test ∷ more) ≡ first_refusal more
passed code test more e = ap (λ (b : Bool). first_refusal (refuse code b ∷ more)) e

pub stops : (code : DosError) (test : Bool) (more : List (Option DosError)) → test ≡ true → first_refusal (refuse code test ∷ more) ≡ Some code
stops code test more e = ap (λ (b : Bool). first_refusal (refuse code b ∷ more)) e

-- a name has no fault
pub is_named : (name : List ℕ) → IsName name → is_name name ≡ true
is_named name is =
    let some : (length name == 0) ≡ false = ne_eqb (length name) 0 (λ e. absurd (omega (arith, e, is.not_empty))) in
    let plain : list_any is_separator name ≡ false = list_any_none is_separator name
    (All-from_get_or (λ c. is_separator c ≡ false) name 0 (λ k inside. no_separator _ (All-get_or IsNameByte name k 0 inside is.plain))) in
    rw (some, le-ltb 30 (length name) is.short, plain) refl

-- if `find` finds nothing, no element passes
find_none : (p : ℕ → Bool) (xs : List ℕ) (x : ℕ) → find p xs ≡ None → Contains xs x → p x ≡ true → ⊥
find_none p [] x e c h = Contains-nil x c
find_none p (y ∷ ys) x e c h = go (p y) refl e (λ f m. find_none p ys x f m h)
  where
    go : (b : Bool) → p y ≡ b → cond b (Some y) (find p ys) ≡ None → (find p ys ≡ None → Contains ys x → ⊥) → ⊥
    go true at f rest = absurd (cc f)
    go false at f rest = elim (Contains-cases y ys x c) [ inl same ↦ true≢false (sym h ∙ ap p (sym same) ∙ at) | inr later ↦ rest f later ]

pub no_child_new : (t : Tree) (dir : ℕ) (name : List ℕ) → child_of t dir name ≡ None → IsNewName t dir name
no_child_new t dir name e k c same = find_none _ (entries t dir) k e c ((bytes_eq-Decides (map upper (name_of t k)) (map upper name)).1 same)

pub none_there : (o : Option ℕ) → is_some o ≡ false → o ≡ None
none_there None h = refl
none_there (Some k) h = absurd (true≢false h)

-- an entry can be made in a directory that does not have the name
pub can_make_in : (image : List ℕ) (dir : ℕ) (name : List ℕ) → HasDirectory image dir → IsName name → ((t : Tree) → Stands image t → child_of t dir name ≡ None)
    → (was : List ℕ) → was ≡ image → (t : Tree) → Stands was t → CanMake t dir name
can_make_in image dir name directory valid none was same t stands =
    let stood = subst (λ (m : List ℕ). Stands m t) same stands in
    record { directory = directory t stood; valid = valid; new_name = no_child_new t dir name (none t stood) }

-- the directory of an entry
pub parent_there : (t : Tree) → Proper t → (key : ℕ) (node : Node) → t.nodes key ≡ Some node → key ≢ root t → (dir : ℕ) × (parent_of t key ≡ Some dir)
parent_there t proper key node at other = elim (root_or_parent t proper key node at) [
  | inl same ↦ absurd (other same)
  | inr p ↦ (p.0, rw at p.1)
]

is_nil : (list : List ℕ) → is_empty list ≡ true → list ≡ []
is_nil [] h = refl
is_nil (x ∷ xs) h = absurd (true≢false (sym h))

-- no other entry of the directory has the name
only_itself : (t : Tree) → Proper t → (dir key : ℕ) (name : List ℕ) (o : Option ℕ) → child_of t dir name ≡ o → is_some_and (λ other. not (other == key)) o ≡ false
    → (k : ℕ) → Contains (entries t dir) k → k ≢ key → ¬ Same (name_of t k) name
only_itself t proper dir key name None e h k c n = no_child_new t dir name e k c
only_itself t proper dir key name (Some other) e h k c n = λ same.
    let there = child_there t dir other name e in
    let is_key : other ≡ key = eqb-true other key (not-false (nat_eq other key) h) in
    n (proper.unlike dir k other c there.0 (same ∙ sym there.1) ∙ is_key)

-- an object that no refusal excludes can be removed, or can move
module _ (t : Tree) (proper : Proper t) (key : ℕ) (there : IsSome (t.nodes key)) (held : Bool) where
  above : refuse ObjectWrongType (key == root t) ≡ None → (dir : ℕ) × (parent_of t key ≡ Some dir)
  above none =
      let n = some_in (t.nodes key) there in
      parent_there t proper key n.0 n.1 (λ same. true≢false (sym (eq-eqb key (root t) same) ∙ not_refused ObjectWrongType _ none))

  pub can_remove : (force : Bool) → NoneRefuses (remove_refusals t key held force) → CanRemove t key
  can_remove force none = let p = above none.0 in record { dir = p.0; listed = p.1; empty = is_nil (entries t key) (not-false _ (not_refused DirectoryNotEmpty _ none.1.1.0)) }

  pub can_move : (dir : ℕ) (name : List ℕ) → IsDirectoryKey t dir → IsName name → NoneRefuses (move_refusals t key dir name held) → CanRename t key dir name
  can_move dir name directory valid none =
      let p = above none.0 in
      let n = content_in (t.nodes dir) _ directory.1 in record {
        from = p.0;
        listed = p.1;
        directory = directory;
        not_under = λ u. true≢false (sym ((under_is_told t proper key dir (ap is_some n.1)).1 u) ∙ not_refused ObjectInUse _ none.1.1.1.0);
        valid = valid;
        new_name = only_itself t proper dir key name (child_of t dir name) refl (not_refused ObjectExists _ none.1.0);
      }
