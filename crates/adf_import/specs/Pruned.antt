-- An entry removed with everything below it.
use Rattle.std.specs.Prelude.{◌≡◌, ◌≢◌, ℕ, Bool, false, if◌then◌else◌, List, ◌∷◌, ◌++◌, map, reverse, AllPairs, Contains, Option, None, Some, Result, MatchOption, MatchResult, IsTrue}
use Rattle.ados_name.specs.declared.stamp.Date3.{Date3}
use Rattle.ados_name.specs.Name.{denies_delete}
use Rattle.ados_model.specs.declared.dos_error.DosError.{DosError}
use Rattle.ados_model.specs.declared.dos_error.DosError.TheVariants.{DeleteProtected, NoFreeStore, ObjectWrongType}
use Rattle.ados_model.specs.Tree.{Tree, entries, parent_of, root}
use Rattle.ados_model.specs.Stands.{Stands}
use Rattle.ados_model.specs.Change.{removed}
use Rattle.ados_model.specs.Keys.{HasKey}
use Rattle.ados_change.specs.Conditions.{IsUnder}
use Rattle.ados_volume.specs.Shown.{Shown}
use Rattle.ados_model.specs.Objects.{is_under, protection_of}
use Rattle.adf_import.specs.InTurn.{GoesThrough}

-- the entry leaves its directory as in `removed`, and no node at or below it is left
abbrev pub pruned : Date3 → ℕ → Tree → Tree
pruned moment key t =
    let u = removed moment key t in
    record u { nodes = λ k. if is_under t key k then None else u.nodes k }

-- the keys of everything below an object: each once, and each after the key of its directory, if that is not the object
pub record AreKeysBelow (t : Tree) (top : ℕ) (keys : List ℕ) : Type 0 where
  pub once : AllPairs (λ j k. j ≢ k) keys
  pub below : (key : ℕ) → Contains keys key → IsUnder t top key
  pub in_order : (front : List ℕ) (key : ℕ) (back : List ℕ) → keys ≡ front ++ key ∷ back → (dir : ℕ) × (parent_of t key ≡ Some dir) × Contains (top ∷ front) dir
  pub all : (dir key : ℕ) → Contains (top ∷ keys) dir → Contains (entries t dir) key → Contains keys key

-- without `force`, a protection bit of the entry or of one below it denies deletion
abbrev pub IsDenied : Tree → ℕ → Bool → Type 0
IsDenied t key force = (force ≡ false) × ((k : ℕ) × IsUnder t key k × IsTrue (denies_delete (protection_of t k)))

-- without `force`, a protection bit of this entry, which is at or below another, denies that the other is removed
pub record Denies (t : Tree) (key : ℕ) (force : Bool) (entry : ℕ) : Type 0 where
  pub unforced : force ≡ false
  pub under : IsUnder t key entry
  pub denied : IsTrue (denies_delete (protection_of t entry))

-- an entry that denies it; none if nothing does
abbrev pub IsDeniedEntry : List ℕ → ℕ → Bool → Option ℕ → Type 0
IsDeniedEntry image key force found =
    MatchOption found
    ((t : Tree) → Stands image t → ¬ IsDenied t key force)
    (λ entry. HasKey image entry × ((t : Tree) → Stands image t → Denies t key force entry))

-- an entry can be removed with everything below it: it is not the root, and no protection bit denies it
pub record CanPrune (t : Tree) (key : ℕ) (force : Bool) : Type 0 where
  pub not_root : key ≢ root t
  pub allowed : ¬ IsDenied t key force

-- why it cannot: it is the root, a protection bit denies it, or there was no memory for the list of entries below it
abbrev pub CannotPrune : Tree → ℕ → Bool → DosError → Type 0
CannotPrune t key force ObjectWrongType = key ≡ root t
CannotPrune t key force DeleteProtected = (key ≢ root t) × IsDenied t key force
CannotPrune t key force NoFreeStore = key ≢ root t
CannotPrune t key force _ = ⊥

-- everything below an entry is removed and then the entry, one after the other, each after what it contains
pub record RemovesInTurn (stamp : Date3) (key : ℕ) (old new : List ℕ) : Type 0 where
  pub below : List ℕ
  pub are_below : (t : Tree) → Stands old t → AreKeysBelow t key below
  pub goes : GoesThrough (map (removed stamp) (reverse (key ∷ below))) old new

-- the new image represents the tree without the entry and everything below it, after these removals; or this error
-- refuses it, and the volume is unchanged
abbrev pub Prunes : {A : Type 0} → Date3 → ℕ → Bool → Shown → Shown → Result A DosError → Type 0
Prunes moment key force old new result =
    MatchResult result
    (λ _.
    ((t : Tree) → Stands old.image t → CanPrune t key force × Stands new.image (pruned moment key t))
    × RemovesInTurn moment key old.image new.image)
    (λ error. (new ≡ old) × ((t : Tree) → Stands old.image t → CannotPrune t key force error))
