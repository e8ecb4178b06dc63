-- Examples of refusals, computed from the definitions.
use Rattle.std.specs.Prelude.{◌≡◌, ◌==◌, if◌then◌else◌, ◌∷◌, ◌++◌}
use Rattle.std.proofs.Common.{ap₂, sym, ◌∙◌}
use Rattle.std.specs.FinMap as numbered
use Rattle.ados_handler.proofs.Common.{ℕ, Date3, List, [], pos, negsuc, codes, refl, replicate, Option, Some, None, true, map, nat_cmp, nil_from_length, Ffs, steps, steps_along, last_name, front, Content, Node, Tree, Directory, File, DosError, ActionNotKnown, CommentTooBig, DeleteProtected, DeviceNotMounted, InvalidComponentName, NoMoreEntries, ObjectExists, ObjectInUse, ObjectWrongType, Packet, LocateObject, RenameDisk, DeleteObject, RenameObject, CreateDir, SetComment, ExamineNext, FindInput, FindOutput, Other, holds, opening_session, LockHold, HandleHold, refusal}
use Rattle.ados_model.specs.declared.dos_error.DosError.TheVariants.{DirectoryNotFound, ObjectNotFound}

abbrev moment : Date3
moment = record { days = 0; minutes = 0; ticks = 0 }

abbrev node : List ℕ → Option ℕ → ℕ → Content → Node
node name parent bits content = record { name = name; parent = parent; protection = bits; date = moment; comment = []; content = content }

-- a root with the directories a and b and the file f, which cannot be written or deleted
abbrev small : Tree
small = record {
  blocks = 16;
  format = Ffs;
  disk_date = moment;
  creation_date = moment;
  nodes = λ key.
      if key == 8 then Some (node (codes "Work") None 0 (Directory (4 ∷ 2 ∷ 3 ∷ [])))
      else if key == 2 then Some (node (codes "a") (Some 8) 0 (Directory []))
      else if key == 3 then Some (node (codes "b") (Some 8) 0 (Directory []))
      else if key == 4 then Some (node (codes "f") (Some 8) 5 (File []))
      else None;
  lost = λ block. None;
}

-- nothing is held at first
no_entries : {X : Type 0} → numbered.entries (numbered.empty {X = X} {R = nat_cmp}) ≡ []
no_entries {X} = nil_from_length (numbered.entries (numbered.empty {X = X} {R = nat_cmp})) (sym (numbered.len-entries (numbered.empty {X = X} {R = nat_cmp})) ∙ numbered.len-empty nat_cmp X)

pub no_holds : holds opening_session ≡ []
no_holds = ap₂ (λ (ls : List (ℕ × LockHold)) (hs : List (ℕ × HandleHold)). map (λ l. (l.key, l.exclusive)) (map (λ e. e.1) ls) ++ map (λ h. (h.key, h.exclusive)) (map (λ e. e.1) hs)) no_entries no_entries

dead : refusal small (record opening_session { died = true }) (Other (pos 999)) ≡ Some DeviceNotMounted
dead = refl

-- packets, each with its refusal
abbrev HaveRefusals : List (Packet × Option DosError) → Type 0
HaveRefusals rows = map (λ row. refusal small opening_session row.0) rows ≡ map (λ row. row.1) rows

by_paths : HaveRefusals (
    (Other (pos 999), Some ActionNotKnown)
    -- a missing last name and a missing prefix, and a prefix through a file
    ∷ (LocateObject 0 (codes "x") (negsuc 1), Some ObjectNotFound)
    ∷ (LocateObject 0 (codes "x/y") (negsuc 1), Some DirectoryNotFound)
    ∷ (LocateObject 0 (codes "f/y") (negsuc 1), Some ObjectWrongType)
    ∷ (CreateDir 0 (codes "a/"), Some InvalidComponentName)
    ∷ (CreateDir 0 (codes "x/y"), Some DirectoryNotFound)
    ∷ (CreateDir 0 (codes "A"), Some ObjectExists)
    ∷ (CreateDir 0 (codes "c"), None)
    -- the root
    ∷ (DeleteObject 0 [], Some ObjectWrongType)
    ∷ (SetComment 0 [] (replicate 80 65), Some CommentTooBig)
    ∷ (SetComment 0 [] (codes "abc"), Some ObjectWrongType)
    ∷ (RenameDisk (codes "a/b"), Some InvalidComponentName)
    -- the entry after no entry, after the last one and after the first one
    ∷ (ExamineNext 0 9, Some ObjectNotFound)
    ∷ (ExamineNext 0 3, Some NoMoreEntries)
    ∷ (ExamineNext 0 4, None)
    -- a move over another entry, and a directory as a file
    ∷ (RenameObject 0 (codes "a") 0 (codes "B"), Some ObjectExists)
    ∷ (FindInput 0 (codes "b"), Some ObjectWrongType)
    ∷ [])
unfolding steps steps_along last_name front
by_paths = refl

by_holds : HaveRefusals (
    -- a move below itself, and to the same name in another case
    (RenameObject 0 (codes "a") 0 (codes "a/c"), Some ObjectInUse)
    ∷ (RenameObject 0 (codes "a") 0 (codes "A"), None)
    -- the protected file
    ∷ (DeleteObject 0 (codes "f"), Some DeleteProtected)
    ∷ (FindOutput 0 (codes "f"), Some DeleteProtected)
    ∷ [])
unfolding steps steps_along last_name front
by_holds = rw no_holds refl
