-- The effect of each packet that is not refused.
use Rattle.std.specs.Prelude.{◌≡◌, ℕ, ◌+◌, ◌-◌, ℤ, pos, Bool, true, false, ◌==◌, nat_lt, if◌then◌else◌, List, [], ◌∷◌}
use Rattle.std.specs.Prelude.{◌++◌, take, drop, length, replicate, None, Some, MatchOption, MatchBool}
use Rattle.adf_block.specs.Image.{IsInside}
use Rattle.ados_model.specs.Tree.{Date3, Node, Tree, root, bytes_of, parent_of, size_of, Content.Directory}
use Rattle.ados_model.specs.Tree.{Content.File}
use Rattle.ados_model.specs.Change.{changed, entries_after, made, removed, renamed, rewritten, stamped, written}
use Rattle.ados_model.specs.Objects.{file_info, disk_info, lock_key, object, spot_directory, spot_name, standing}
use Rattle.ados_model.specs.Objects.{is_exclusive_mode, handle_target, target_number}
use Rattle.ados_model.specs.Packet.{NO_LOCK, Packet, Die, LocateObject, RenameDisk, FreeLock, DeleteObject}
use Rattle.ados_model.specs.Packet.{RenameObject, CopyDir, SetProtect, CreateDir, ExamineObject, ExamineNext}
use Rattle.ados_model.specs.Packet.{DiskInfo, Info, SetComment, Parent, SetDate, SameLock, Read, Write, FindUpdate}
use Rattle.ados_model.specs.Packet.{FindInput, FindOutput, End, Seek, SetFileSize, Other, dos_true, dos_false}
use Rattle.ados_model.specs.declared.answer.Body.{Body, TheVariants.Empty, TheVariants.Buffer, TheVariants.Handle}
use Rattle.ados_model.specs.declared.answer.Body.{TheVariants.Entry, TheVariants.Disk}
use Rattle.ados_model.specs.Session.{Session, IsFreeNumber, with_lock, without_lock, with_handle, without_handle}
use Rattle.ados_model.specs.Session.{at_position, positions_within, handle_key, handle_position}

-- the result of a served packet: the tree, the session, the first result and the body
pub record After : Type 0 where
  pub tree : Tree
  pub session : Session
  pub res1 : ℤ
  pub body : Body

abbrev pub after : Tree → Session → ℤ → Body → After
after t s res1 body = record { tree = t; session = s; res1 = res1; body = body }

-- a new key: a block of the volume that is no node's key and is not lost
abbrev pub IsNewKey : Tree → ℕ → Type 0
IsNewKey t key = IsInside t.blocks key × (t.nodes key ≡ None) × (t.lost key ≡ None)

-- a new lock on an object, under a free number
abbrev pub GivesLock : Tree → Session → ℕ → Bool → After → Type 0
GivesLock t s key exclusive result =
    (number : ℕ) × IsFreeNumber s.locks number
    × (result ≡ after t (with_lock number key exclusive s) (pos number) Empty)

-- a new handle on a file, under a free number
abbrev pub GivesHandle : Tree → Session → ℕ → Bool → After → Type 0
GivesHandle t s key exclusive result =
    (number : ℕ) × IsFreeNumber s.handles number
    × (result ≡ after t (with_handle number key exclusive s) dos_true (Handle number))

-- a new file at a place, under a new key, and a new handle on it
abbrev pub MakesFile : Tree → Session → ℕ → List ℕ → Bool → Date3 → After → Type 0
MakesFile t s dir name exclusive now result =
    (key : ℕ) × IsNewKey t key × GivesHandle (made now dir key name (File []) t) s key exclusive result

-- the description of a node
abbrev pub Examines : Tree → Session → ℕ → After → Type 0
Examines t s key result =
    (node : Node) × (t.nodes key ≡ Some node) × (result ≡ after t s dos_true (Entry (file_info t.format key node)))

-- a file with this size: cut, or with zeros appended; an equal size changes nothing
abbrev pub resized : Date3 → ℕ → ℕ → Tree → Tree
resized now key size t =
    if size == size_of t key then t
    else if nat_lt size (size_of t key) then rewritten now key (take size (bytes_of t key)) t
    else rewritten now key (bytes_of t key ++ replicate (size - length (bytes_of t key)) 0) t

module _ (t : Tree) (s : Session) where
  -- one row for each packet; `now` is its time stamp
  abbrev pub Success : Packet → Date3 → After → Type 0
  Success Die now result = result ≡ after t (record s { died = true }) dos_true Empty
  Success (LocateObject lock path mode) now result =
      GivesLock t s (object t s lock path) (is_exclusive_mode mode) result
  Success (RenameDisk name) now result =
      result ≡ after (stamped now (changed (root t) (λ node. record node { name = name }) t)) s dos_true Empty
  Success (FreeLock lock) now result =
      result ≡ after t (if lock == NO_LOCK then s else without_lock lock s) dos_true Empty
  Success (DeleteObject lock path) now result = result ≡ after (removed now (object t s lock path) t) s dos_true Empty
  Success (RenameObject from_lock from to_lock to) now result =
      result ≡ after
      (renamed now (object t s from_lock from) (spot_directory t s to_lock to)
      (spot_name t s to_lock to) t) s dos_true Empty
  Success (CopyDir lock) now result =
      MatchBool (lock == NO_LOCK) (result ≡ after t s (pos NO_LOCK) Empty)
      (GivesLock t s (lock_key t s lock) false result)
  Success (SetProtect lock path bits) now result =
      result ≡ after
      (stamped now (changed (object t s lock path) (λ node. record node { protection = bits }) t)) s dos_true Empty
  Success (CreateDir lock path) now result =
      (key : ℕ) × IsNewKey t key
      × GivesLock
      (made now (spot_directory t s lock path) key (spot_name t s lock path) (Directory []) t) s key true result
  Success (ExamineObject lock) now result = Examines t s (lock_key t s lock) result
  Success (ExamineNext lock key) now result =
      (next : ℕ) × (rest : List ℕ) × (entries_after t (lock_key t s lock) key ≡ Some (next ∷ rest))
      × Examines t s next result
  Success DiskInfo now result = result ≡ after t s dos_true (Disk (disk_info t))
  Success (Info lock) now result = result ≡ after t s dos_true (Disk (disk_info t))
  Success (SetComment lock path comment) now result =
      result ≡ after
      (stamped now (changed (object t s lock path) (λ node. record node { comment = comment }) t)) s dos_true Empty
  Success (Parent lock) now result =
      MatchOption (parent_of t (lock_key t s lock)) (result ≡ after t s (pos NO_LOCK) Empty)
      (λ dir. GivesLock t s dir false result)
  Success (SetDate lock path date) now result =
      result ≡ after
      (stamped now (changed (object t s lock path) (λ node. record node { date = date }) t)) s dos_true Empty
  Success (SameLock first second) now result =
      result ≡ after t s (if lock_key t s first == lock_key t s second then dos_true else dos_false) Empty
  Success (Read handle buffer) now result =
      let bytes = take (length buffer) (drop (handle_position s handle) (bytes_of t (handle_key s handle))) in
      result ≡ after t (at_position handle (handle_position s handle + length bytes) s) (pos (length bytes))
      (Buffer (bytes ++ drop (length bytes) buffer))
  Success (Write handle bytes) now result =
      result ≡ after (written now (handle_key s handle) (handle_position s handle) bytes t)
      (at_position handle (handle_position s handle + length bytes) s) (pos (length bytes)) (Buffer bytes)
  Success (FindUpdate lock path) now result =
      MatchOption (standing t s lock path)
      (MakesFile t s (spot_directory t s lock path) (spot_name t s lock path) false now result)
      (λ key. GivesHandle t s key false result)
  Success (FindInput lock path) now result = GivesHandle t s (object t s lock path) false result
  Success (FindOutput lock path) now result =
      MatchOption (standing t s lock path)
      (MakesFile t s (spot_directory t s lock path) (spot_name t s lock path) true now result)
      (λ key. GivesHandle (rewritten now key [] t) s key true result)
  Success (End handle) now result = result ≡ after t (without_handle handle s) dos_true Empty
  Success (Seek handle offset mode) now result =
      result ≡ after t (at_position handle (target_number (handle_target t s handle offset mode)) s)
      (pos (handle_position s handle)) Empty
  Success (SetFileSize handle offset mode) now result =
      let key = handle_key s handle in
      let size = target_number (handle_target t s handle offset mode) in
      result ≡ after (resized now key size t) (positions_within key size s) dos_true Empty
  Success (Other action) now result = ⊥
