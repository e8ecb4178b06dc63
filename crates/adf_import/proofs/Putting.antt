-- A file or directory put under a name: in place of the entry with the name, or new.
use Rattle.std.proofs.Common.{◌≡◌, ℕ, Bool, false, true, not, if◌then◌else◌, List, [], ◌∷◌, length, Option, Some, None, Ok, refl, sym, ap, ◌∙◌, is_some}
use Rattle.adf_import.proofs.Common.{◌&&◌, option_map_or, true≢false, Date3, denies_delete, denies_write, DeleteProtected, DiskFull, ObjectExists, ObjectWrongType, WriteProtected, Content, Tree, content_at, free, IsUnused, Directory, File, Stands, HasDirectory, HasEntryKey, HasKey, HasTree, made, child_of, is_file, IsDirectoryKey, protection_of, lacks, first_refusal, refuse, passed, NewFile, NotPut, ChangesTree, GoesThrough, PutsIn, PutsInTurn, Shown, adding, filled, filling, make_refusal, more_blocks, or_no_room, KeepsKeys, enter_refusal, entered, new_refusal, put, put_refusal, putting}
use Rattle.ados_model.specs.Change.{holds_file}
use Rattle.ados_volume.proofs.Walking.{child_is_key}
use Rattle.adf_import.specs.declared.new_file.NotPut.TheVariants.{NoRoom, Refused}
use Rattle.adf_import.specs.Changes.{added}
use Rattle.adf_import.specs.Put.PutsInTurn.{none as nothing_put, a_directory, a_description, a_file}
use Rattle.adf_import.specs.Refusals.{add_refusal, replace_refusal}
use Rattle.adf_import.proofs.Filling.{IsEntry, after_change}
use Rattle.adf_import.proofs.Keeping.{content_made, entry_made, keeps_added, keeps_filled, keeps_keys, keeps_made}

-- a child is a node
pub child_key : (image : List ℕ) (dir : ℕ) (name : List ℕ) (key : ℕ) → ((t : Tree) → Stands image t → child_of t dir name ≡ Some key) → HasKey image key
child_key image dir name key is t s = child_is_key t s.proper dir name key (is t s)

-- ---- nothing has the name

module _ (t : Tree) (dir : ℕ) (name : List ℕ) (none : child_of t dir name ≡ None) where
  pub put_new : (size : ℕ) (force : Bool) → put_refusal dir name size force t ≡ add_refusal dir name size t
  put_new size force =
      ap (λ (o : Option ℕ). option_map_or (λ (key : ℕ). if force then replace_refusal key size false t else Some (Refused ObjectExists)) o (add_refusal dir name size t)) none

  pub put_new_steps : (stamp : Date3) (file : NewFile) (key : ℕ) → putting stamp dir name file key t ≡ adding stamp dir key name file
  put_new_steps stamp file key = ap (λ (o : Option ℕ). option_map_or (λ (there : ℕ). filling stamp there file) o (adding stamp dir key name file)) none

  pub put_new_tree : (moment : Date3) (file : NewFile) (key : ℕ) → put moment dir name file key t ≡ added moment dir key name file t
  put_new_tree moment file key = ap (λ (o : Option ℕ). option_map_or (λ (there : ℕ). filled moment there file t) o (added moment dir key name file t)) none

  pub enter_new : (force : Bool) → enter_refusal dir name force t ≡ new_refusal t
  enter_new force =
      ap (λ (o : Option ℕ). option_map_or (λ (key : ℕ). if is_file t key then Some (Refused (if force then ObjectWrongType else ObjectExists)) else None) o (new_refusal t)) none

  -- a directory cannot be made only if no block is free
  pub made_has_room : make_refusal dir name t ≡ None → new_refusal t ≡ None
  made_has_room allowed = go (lacks t 1) (sym (passed ObjectExists (is_some (child_of t dir name)) (refuse DiskFull (lacks t 1) ∷ []) (ap is_some none)) ∙ allowed)
    where
      go : (b : Bool) → first_refusal (refuse DiskFull b ∷ []) ≡ None → (if b then Some (NoRoom 1 (free t)) else None) ≡ None
      go true e = absurd (cc e)
      go false e = refl

  pub enter_new_tree : (moment : Date3) (key : ℕ) → entered moment dir name key t ≡ made moment dir key name (Directory []) t
  enter_new_tree moment key = ap (λ (o : Option ℕ). option_map_or (λ (there : ℕ). t) o (made moment dir key name (Directory []) t)) none

-- ---- an entry has it

module _ (t : Tree) (dir : ℕ) (name : List ℕ) (there : ℕ) (is : child_of t dir name ≡ Some there) where
  pub put_over : (size : ℕ) (force : Bool) → force ≡ true → put_refusal dir name size force t ≡ replace_refusal there size false t
  put_over size force forced =
      ap (λ (o : Option ℕ). option_map_or (λ (key : ℕ). if force then replace_refusal key size false t else Some (Refused ObjectExists)) o (add_refusal dir name size t)) is
      ∙ ap (λ (b : Bool). if b then replace_refusal there size false t else Some (Refused ObjectExists)) forced

  pub put_over_steps : (stamp : Date3) (file : NewFile) (key : ℕ) → putting stamp dir name file key t ≡ filling stamp there file
  put_over_steps stamp file key = ap (λ (o : Option ℕ). option_map_or (λ (k : ℕ). filling stamp k file) o (adding stamp dir key name file)) is

  pub put_over_tree : (moment : Date3) (file : NewFile) (key : ℕ) → put moment dir name file key t ≡ filled moment there file t
  put_over_tree moment file key = ap (λ (o : Option ℕ). option_map_or (λ (k : ℕ). filled moment k file t) o (added moment dir key name file t)) is

  pub enter_there : (force : Bool) → is_file t there ≡ false → enter_refusal dir name force t ≡ None
  enter_there force directory =
      ap (λ (o : Option ℕ). option_map_or (λ (key : ℕ). if is_file t key then Some (Refused (if force then ObjectWrongType else ObjectExists)) else None) o (new_refusal t)) is
      ∙ ap (λ (b : Bool). if b then Some (Refused (if force then ObjectWrongType else ObjectExists)) else None) directory

  pub enter_there_tree : (moment : Date3) (key : ℕ) → entered moment dir name key t ≡ t
  enter_there_tree moment key = ap (λ (o : Option ℕ). option_map_or (λ (k : ℕ). t) o (made moment dir key name (Directory []) t)) is

-- only a file can be replaced
replaced_is_file : (t : Tree) (key size : ℕ) (force : Bool) → replace_refusal key size force t ≡ None → is_file t key ≡ true
replaced_is_file t key size force none = go (is_file t key) none
  where
    go : (b : Bool)
        → or_no_room (first_refusal (refuse ObjectWrongType (not b) ∷ refuse DeleteProtected (not force && denies_delete (protection_of t key)) ∷ refuse WriteProtected (not force && denies_write (protection_of t key)) ∷ [])) (more_blocks t key size) (free t) ≡ None
        → b ≡ true
    go true e = refl
    go false e = absurd (cc e)

-- ---- what is unchanged

-- a new file keeps every directory and entry
pub add_keeps : (moment : Date3) (dir key : ℕ) (name : List ℕ) (file : NewFile) (old new : List ℕ) → HasTree old → HasDirectory old dir
    → ((t : Tree) → Stands old t → Stands new (added moment dir key name file t)) → ((t : Tree) → Stands old t → IsUnused t key) → KeepsKeys old new
add_keeps moment dir key name file old new has directory stands unused =
    keeps_keys old new (added moment dir key name file) has stands (λ t s. keeps_added t moment dir key name (File []) (directory t s) (unused t s).no_node file refl)

-- the bytes of a file
file_content : (o : Option Content) → holds_file o ≡ true → (bytes : List ℕ) × (o ≡ Some (File bytes))
file_content None h = absurd (true≢false (sym h))
file_content (Some (Directory keys)) h = absurd (true≢false (sym h))
file_content (Some (File bytes)) h = (bytes, refl)

-- a replaced file keeps them too
pub replace_keeps : (moment : Date3) (key size : ℕ) (force : Bool) (file : NewFile) (old new : List ℕ) → HasTree old
    → ((t : Tree) → Stands old t → (replace_refusal key size force t ≡ None) × Stands new (filled moment key file t)) → KeepsKeys old new
replace_keeps moment key size force file old new has h =
    keeps_keys old new (filled moment key file) has (λ t s. (h t s).1)
    (λ t s.
    let f = file_content (content_at t key) (replaced_is_file t key size force (h t s).0) in
    keeps_filled t moment key file f.0 f.1)

-- a new directory keeps them, and is a directory itself
module _ (moment : Date3) (dir key : ℕ) (name : List ℕ) (old new : List ℕ) (has : HasTree old) (directory : HasDirectory old dir)
    (stands : (t : Tree) → Stands old t → Stands new (made moment dir key name (Directory []) t)) (unused : (t : Tree) → Stands old t → IsUnused t key) where
  pub made_keeps : KeepsKeys old new
  made_keeps = keeps_keys old new (made moment dir key name (Directory [])) has stands (λ t s. keeps_made t moment dir key name (Directory []) (directory t s) (unused t s).no_node)

  pub made_directory : HasDirectory new key
  made_directory u r =
      let t = has.0 in
      let s = has.1 in
      after_change (λ (v : Tree). IsDirectoryKey v key) (made moment dir key name (Directory [])) old new t s stands
      ([], content_made t moment dir key name (Directory []) (directory t s) (unused t s).no_node) u r

  pub made_entry : HasEntryKey new key
  made_entry u r =
      let t = has.0 in
      let s = has.1 in
      after_change (IsEntry key) (made moment dir key name (Directory [])) old new t s stands
      (entry_made t moment dir key name (Directory []) (directory t s) (unused t s).no_node s.proper) u r

-- ---- puts in turn

-- a file that is put
pub is_put : (stamp : Date3) (dir : ℕ) (name : List ℕ) (force : Bool) (file : NewFile) (key : ℕ) (old new : Shown)
    → ChangesTree {E = NotPut} (put_refusal dir name (length file.bytes.now) force) (λ key t. put stamp dir name file key t) old new (Ok key)
    → ((t : Tree) → Stands old.image t → GoesThrough (putting stamp dir name file key t) old.image new.image) → PutsIn stamp dir name force old.image new.image
is_put stamp dir name force file key old new h goes = (file, key, λ t s. record { allowed = (h t s).0; stands = (h t s).1; goes = goes t s })

-- some puts after others
pub puts_both : (stamp : Date3) (force : Bool) (old between new : Shown) → PutsInTurn stamp force old between → PutsInTurn stamp force between new → PutsInTurn stamp force old new
puts_both stamp force old between new first nothing_put = first
puts_both stamp force old between new first (a_file dir name {between = next} puts put) = a_file dir name (puts_both stamp force old between next first puts) put
puts_both stamp force old between new first (a_directory dir name e {between = next} puts entered) = a_directory dir name e (puts_both stamp force old between next first puts) entered
puts_both stamp force old between new first (a_description key file {between = next} puts goes) = a_description key file (puts_both stamp force old between next first puts) goes
