-- Where a path leads in a tree, and the operations on a tree: each takes the time stamp `moment` first and the tree
-- last.
use Rattle.std.specs.Prelude.{ℕ, nat_lt, Bool, true, false, ◌==◌, ◌||◌, if◌then◌else◌, List, [], ◌∷◌, length, map}
use Rattle.std.specs.Prelude.{find, Option, Some, ok_or, Result, Ok, Err, bytes_eq, ◌+◌, ◌++◌, take, drop, not}
use Rattle.std.specs.Prelude.{nat_le, filter, None, option_map}
use Rattle.std.specs.List.{list_any}
use Rattle.std.specs.Option.{option_map_or}
use Rattle.ados_name.specs.Name.{upper, Step, is_from_root, steps, front, last_name, slot, without_archive}
use Rattle.ados_name.specs.Name.{Step.ToParent, Step.ToChild}
use Rattle.ados_model.specs.Tree.{Date3, Content, Tree, root, content_at, entries, name_of, parent_of, behind, Node}
use Rattle.ados_model.specs.Tree.{bytes_of, Content.File, Content.Directory}
pub use Rattle.ados_model.specs.declared.dos_error.WalkFault.{WalkFault, TheVariants.DirectoryNotFound}
pub use Rattle.ados_model.specs.declared.dos_error.WalkFault.{TheVariants.ObjectNotFound, TheVariants.WrongType}
pub use Rattle.ados_model.specs.declared.dos_error.PlaceFault.{PlaceFault}
use Rattle.ados_model.specs.declared.dos_error.PlaceFault.TheVariants as faults

-- there is a node, and it is a file
abbrev pub holds_file : Option Content → Bool
holds_file (Some (File bytes)) = true
holds_file _ = false

-- the key is that of a file
abbrev pub is_file : Tree → ℕ → Bool
is_file t key = holds_file (content_at t key)

-- the entry of a directory with this name, a to z in upper case
abbrev pub child_of : Tree → ℕ → List ℕ → Option ℕ
child_of t dir name = find (λ key. bytes_eq (map upper (name_of t key)) (map upper name)) (entries t dir)

-- the second result if the first is a success, else the first fault
abbrev pub and_then : {A B E : Type 0} → Result A E → (A → Result B E) → Result B E
and_then (Ok a) f = f a
and_then (Err e) f = Err e

-- one step: the parent of the root is an error, a file has no children, and `missing` is the fault of a missing child
abbrev pub step_from : Tree → ℕ → Step → WalkFault → Result ℕ WalkFault
step_from t key ToParent missing = ok_or (parent_of t key) ObjectNotFound
step_from t key (ToChild name) missing = if is_file t key then Err WrongType else ok_or (child_of t key name) missing

-- the fault of a missing child: `last` at the last step, a missing directory before it
abbrev pub missing_before : List Step → WalkFault → WalkFault
missing_before [] last = last
missing_before (step ∷ rest) last = DirectoryNotFound

-- the steps from a key
abbrev pub walk_steps : Tree → ℕ → List Step → WalkFault → Result ℕ WalkFault
walk_steps t key [] last = Ok key
walk_steps t key (step ∷ rest) last =
    and_then (step_from t key step (missing_before rest last)) (λ next. walk_steps t next rest last)

-- the start of a path: the root if it has a `:`, else the given key
abbrev pub start_of : Tree → ℕ → List ℕ → ℕ
start_of t start path = if is_from_root path then root t else start

-- the object at the end of a path
abbrev pub walk : Tree → ℕ → List ℕ → Result ℕ WalkFault
walk t start path = walk_steps t (start_of t start path) (steps path) ObjectNotFound

-- a fault of the walk, as a fault of a place
abbrev pub fault_of_walk : WalkFault → PlaceFault
fault_of_walk DirectoryNotFound = faults.DirectoryNotFound
fault_of_walk ObjectNotFound = faults.ObjectNotFound
fault_of_walk WrongType = faults.WrongType

-- a place is a directory and a name of 1 to 30 bytes
abbrev pub place_in : Tree → Result ℕ WalkFault → List ℕ → Result (ℕ × List ℕ) PlaceFault
place_in t (Err fault) name = Err (fault_of_walk fault)
place_in t (Ok key) name =
    if is_file t key then Err faults.WrongType
    else (if length name == 0 || nat_lt 30 (length name) then Err faults.InvalidName else Ok (key, name))

-- the place that a path names: the directory at the end of its prefix, and its last name
abbrev pub place : Tree → ℕ → List ℕ → Result (ℕ × List ℕ) PlaceFault
place t start path =
    place_in t (walk_steps t (start_of t start path) (steps (front path)) DirectoryNotFound) (last_name path)

-- the tree with this node at a key, or without one
abbrev pub with_node : ℕ → Option Node → Tree → Tree
with_node key node t = record t { nodes = λ k. if k == key then node else t.nodes k }

-- the tree with the node of a key changed by f
abbrev pub changed : ℕ → (Node → Node) → Tree → Tree
changed key f t = with_node key (option_map f (t.nodes key)) t

-- the date of the last change of the disk becomes `moment`
abbrev pub stamped : Date3 → Tree → Tree
stamped moment t = record t { disk_date = moment }

-- the list with one more key, after the last entry whose slot is at most that of the key
abbrev pub enter : (ℕ → ℕ) → ℕ → List ℕ → List ℕ
enter slot_of key [] = key ∷ []
enter slot_of key (k ∷ ks) =
    if list_any (λ j. nat_le (slot_of j) (slot_of key)) (k ∷ ks) then k ∷ enter slot_of key ks else key ∷ k ∷ ks

-- the list of a directory becomes `keys`, and its date `moment`
abbrev pub listed : Date3 → ℕ → List ℕ → Tree → Tree
listed moment dir keys t = changed dir (λ node. record node { content = Directory keys; date = moment }) t

-- the node of a key is added to the list of a directory
abbrev pub entered : Date3 → ℕ → ℕ → Tree → Tree
entered moment dir key t = listed moment dir (enter (λ k. slot (name_of t k)) key (entries t dir)) t

-- the node of a key is removed from the list of its directory
abbrev pub left : Date3 → ℕ → Tree → Tree
left moment key t =
    option_map_or (λ dir. listed moment dir (filter (λ k. not (k == key)) (entries t dir)) t) (parent_of t key) t

-- a directory gets a new entry, with protection 0 and no comment
abbrev pub made : Date3 → ℕ → ℕ → List ℕ → Content → Tree → Tree
made moment dir key name content t =
    let node : Node =
    record { name = name; parent = Some dir; protection = 0; date = moment; comment = []; content = content } in
    stamped moment (entered moment dir key (with_node key (Some node) t))

-- an entry is removed
abbrev pub removed : Date3 → ℕ → Tree → Tree
removed moment key t = stamped moment (with_node key None (left moment key t))

-- an entry moves into a directory, possibly its own, under a name
abbrev pub renamed : Date3 → ℕ → ℕ → List ℕ → Tree → Tree
renamed moment key dir name t =
    stamped moment
    (entered moment dir key
    (changed key (λ node. record node { name = name; parent = Some dir }) (left moment key t)))

-- a file gets these bytes and the date `moment`, and its archive bit is cleared
abbrev pub rewritten : Date3 → ℕ → List ℕ → Tree → Tree
rewritten moment key bytes t =
    stamped moment
    (changed key
    (λ node. record node { content = File bytes; date = moment; protection = without_archive node.protection }) t)

-- bytes are written into a file from a position; they may reach past its end; no bytes change nothing
abbrev pub written : Date3 → ℕ → ℕ → List ℕ → Tree → Tree
written moment key pos [] t = t
written moment key pos (c ∷ cs) t =
    rewritten moment key (take pos (bytes_of t key) ++ (c ∷ cs) ++ drop (pos + length (c ∷ cs)) (bytes_of t key)) t

-- the entries of a directory after a key; the directory's own key is before all
abbrev pub entries_after : Tree → ℕ → ℕ → Option (List ℕ)
entries_after t dir key = behind key (dir ∷ entries t dir)
