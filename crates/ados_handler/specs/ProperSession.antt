-- Proper sessions.
use Rattle.std.specs.Prelude.{◌≡◌, ℕ, ◌≤◌, Bool, true, IsTrue, Option, Some, IsSome}
use Rattle.std.specs.Option.{option_map}
use Rattle.std.specs.FinMap as numbered
use Rattle.ados_model.specs.Tree.{Tree, size_of}
use Rattle.ados_model.specs.Change.{is_file}
use Rattle.ados_model.specs.Session.{Session}
use Rattle.ados_model.specs.declared.holds.HandleHold.{HandleHold}

-- the number of a hold, which is a lock or a handle
pub data HoldNumber : Type 0 where
  ByLock : (number : ℕ) → HoldNumber
  ByHandle : (number : ℕ) → HoldNumber

-- the key of its object, and whether it is exclusive
abbrev pub hold_at : Session → HoldNumber → Option (ℕ × Bool)
hold_at s (ByLock number) = option_map (λ l. (l.key, l.exclusive)) (numbered.get s.locks number)
hold_at s (ByHandle number) = option_map (λ h. (h.key, h.exclusive)) (numbered.get s.handles number)

-- the holds are proper for a tree
pub record IsProperSession (t : Tree) (s : Session) : Type 0 where
  -- a hold is on a node
  pub on_keys : (hold : HoldNumber) (key : ℕ) (exclusive : Bool) → hold_at s hold ≡ Some (key, exclusive)
      → IsSome (t.nodes key)
  -- a handle is on a file, and its position is at most the file's size
  pub on_files : (number : ℕ) (h : HandleHold) → numbered.get s.handles number ≡ Some h → IsTrue (is_file t h.key)
      × (h.position ≤ size_of t h.key)
  -- an exclusive hold is the only hold on its object
  pub alone : (a b : HoldNumber) (key : ℕ) (exclusive : Bool) → hold_at s a ≡ Some (key, true)
      → hold_at s b ≡ Some (key, exclusive) → a ≡ b
