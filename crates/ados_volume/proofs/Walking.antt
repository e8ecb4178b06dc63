-- Steps from node to node.
use Rattle.ados_volume.proofs.Common.{Bool, Contains, Contains-here, Contains-later, Err, IsName, IsSome, List, None, Ok, Option, Proper, Same, Some, Stands, Step, Tree, [], ap, block_count, child_of, cond, directory_node, entries, entry_node, false, find, inl, inr, is_file, is_some, long, name_of, ok_or, parent_of, refl, root_is, root_key, root_or_parent, some_in, step_from, subst, sym, true, ℕ, ◌∙◌, ◌∷◌, ◌≡◌, ◌≢◌}
use Rattle.ados_name.specs.Name.Step.{ToParent, ToChild}
use Rattle.ados_model.specs.declared.dos_error.WalkFault.{WalkFault}
use Rattle.ados_model.specs.declared.dos_error.WalkFault.TheVariants.{ObjectNotFound, WrongType}
use Rattle.ados_volume.proofs.Looking.{no_child}

-- the result of `find` is an element that passes
pub find-is : (p : ℕ → Bool) (xs : List ℕ) (x : ℕ) → find p xs ≡ Some x → Contains xs x × (p x ≡ true)
find-is p [] x e = absurd (cc e)
find-is p (y ∷ ys) x e = go (p y) refl (λ m. find-is p ys x m)
  where
    go : (b : Bool) → p y ≡ b → (find p ys ≡ Some x → Contains ys x × (p x ≡ true)) → Contains (y ∷ ys) x × (p x ≡ true)
    go true h rest = let same : y ≡ x = let first : Some y ≡ Some x = sym (rw h refl) ∙ e in cc first in (subst (Contains (y ∷ ys)) same (Contains-here y ys), sym (ap p same) ∙ h)
    go false h rest = let later = rest (sym (rw h refl) ∙ e) in (Contains-later y ys x later.0, later.1)

ok_or_some : {E : Type 0} (o : Option ℕ) (fault : E) (key : ℕ) → ok_or o fault ≡ Ok key → o ≡ Some key
ok_or_some None fault key e = absurd (cc e)
ok_or_some (Some x) fault key e = cc e

-- a child is a node, a parent is a node, and a step leads to a node
module _ (t : Tree) (proper : Proper t) where
  pub child_is_key : (dir : ℕ) (name : List ℕ) (key : ℕ) → child_of t dir name ≡ Some key → IsSome (t.nodes key)
  child_is_key dir name key e = ap is_some (entry_node t proper dir key (find-is _ (entries t dir) key e).0).1

  pub parent_is_key : (key dir : ℕ) → parent_of t key ≡ Some dir → IsSome (t.nodes dir)
  parent_is_key key dir e = ap is_some (directory_node t proper dir key ((proper.listed dir key).1 e)).2

  pub step_key : (at : ℕ) (step : Step) (missing : WalkFault) (key : ℕ) → step_from t at step missing ≡ Ok key → IsSome (t.nodes key)
  step_key at ToParent missing key e = parent_is_key at key (ok_or_some (parent_of t at) ObjectNotFound key e)
  step_key at (ToChild name) missing key e = go (is_file t at) e
    where
      go : (b : Bool) → cond b (Err WrongType) (ok_or (child_of t at name) missing) ≡ Ok key → IsSome (t.nodes key)
      go true e = absurd (cc e)
      go false e = child_is_key at name key (ok_or_some (child_of t at name) missing key e)

module _ (image : List ℕ) (t : Tree) (s : Stands image t) where
  -- the parent of an entry is in its parent long
  pub parent_is : (key v : ℕ) → IsSome (t.nodes key) → key ≢ root_key (block_count image) → v ≡ long image key 125 → Some v ≡ parent_of t key
  parent_is key v h other e =
      let n = some_in (t.nodes key) h in
      elim (root_or_parent t s.proper key n.0 n.1) [
        | inl r ↦ absurd (other (r ∙ sym (root_is image t s)))
        | inr p ↦
            let own : parent_of t key ≡ Some p.0 = rw n.1 p.1 in
            ap Some (e ∙ (s.entries key p.0 n.0 n.1 p.1).parent) ∙ sym own
      ]

  -- no entry has a text that is not a name
  pub foreign_child : (dir : ℕ) (text : List ℕ) → ((name : List ℕ) → IsName name → ¬ Same name text) → child_of t dir text ≡ None
  foreign_child dir text foreign =
      no_child image t s dir text (λ key c same.
      let n = entry_node t s.proper dir key c in
      let own : name_of t key ≡ n.0.name = rw n.1 refl in
      foreign (name_of t key) (subst IsName (sym own) (s.proper.name key n.0 n.1)) same)
