-- The packet that a line of a script stands for.
use Rattle.std.specs.Prelude.{◌≡◌, ◌⊎◌, ℕ, zero, suc, ◌^◌, ◌<◌, ◌≤◌, ℤ, pos, negsuc, false, List, [], ◌∷◌, ◌++◌}
use Rattle.std.specs.Prelude.{length, replicate, Option, Some, codes}
use Rattle.std.specs.Str.Parse.{IsNumeral, digits_value}
use Rattle.ados_model.specs.declared.packet.Packet.{Packet}
use Rattle.ados_model.specs.declared.packet.Packet.TheVariants.{Die, LocateObject, RenameDisk, FreeLock, DeleteObject}
use Rattle.ados_model.specs.declared.packet.Packet.TheVariants.{RenameObject, CopyDir, SetProtect, CreateDir}
use Rattle.ados_model.specs.declared.packet.Packet.TheVariants.{ExamineObject, ExamineNext, DiskInfo, Info}
use Rattle.ados_model.specs.declared.packet.Packet.TheVariants.{SetComment, Parent, SetDate, SameLock, Read, Write}
use Rattle.ados_model.specs.declared.packet.Packet.TheVariants.{FindUpdate, FindInput, FindOutput, End, Seek}
use Rattle.ados_model.specs.declared.packet.Packet.TheVariants.{SetFileSize, Other}
use Rattle.adf_script.specs.Pieces.{has_byte}
use Rattle.adf_script.specs.Values.{reply_value}

-- an unsigned decimal number of 32 bits
abbrev pub IsNumber : ℕ → List ℕ → Type 0
IsNumber n bytes = IsNumeral 10 bytes × (digits_value 10 bytes ≡ n) × (n < 2 ^ 32)

abbrev pub negative : ℕ → ℤ
negative zero = pos zero
negative (suc n) = negsuc n

-- a signed decimal number of 32 bits, with an optional `-`
abbrev pub IsSigned : ℤ → List ℕ → Type 0
IsSigned z bytes =
    ((n : ℕ) × IsNumber n bytes × (n < 2 ^ 31) × (z ≡ pos n))
    ⊎ ((n : ℕ) × (digits : List ℕ) × (bytes ≡ 45 ∷ digits) × IsNumber n digits × (n ≤ 2 ^ 31) × (z ≡ negative n))

-- a number, or `$k`: the value of reply k
abbrev pub IsValue : List (Option ℕ) → ℕ → List ℕ → Type 0
IsValue values n bytes =
    IsNumber n bytes
    ⊎ ((k : ℕ) × (digits : List ℕ) × (bytes ≡ 36 ∷ digits) × IsNumber k digits × (reply_value values k ≡ Some n))

-- a text in quotes, without a quote in it; lines have no line feeds, so neither has the text
abbrev pub IsQuoted : List ℕ → List ℕ → Type 0
IsQuoted text bytes = (bytes ≡ 34 ∷ text ++ 34 ∷ []) × (has_byte 34 text ≡ false)

-- a field of a line: the number of a lock, handle or key; another number, unsigned or signed; a text of at most 255
-- bytes, or of any length; the number of zeros in a buffer
pub data Field : Type 0 where
  Value : (n : ℕ) → Field
  Number : (n : ℕ) → Field
  Signed : (z : ℤ) → Field
  Text : (text : List ℕ) → Field
  LongText : (text : List ℕ) → Field
  Zeros : (buffer : List ℕ) → Field

-- the bytes are this field, with these values of earlier replies
abbrev pub SpellsField : List (Option ℕ) → Field → List ℕ → Type 0
SpellsField values (Value n) bytes = IsValue values n bytes
SpellsField values (Number n) bytes = IsNumber n bytes
SpellsField values (Signed z) bytes = IsSigned z bytes
SpellsField values (Text text) bytes = IsQuoted text bytes × (length text ≤ 255)
SpellsField values (LongText text) bytes = IsQuoted text bytes
SpellsField values (Zeros buffer) bytes =
    IsNumber (length buffer) bytes × (length buffer ≤ 1048576) × (buffer ≡ replicate (length buffer) 0)

-- the bytes are these fields, each after one space, up to the end of the line
abbrev pub SpellsFields : List (Option ℕ) → List Field → List ℕ → Type 0
SpellsFields values [] bytes = bytes ≡ []
SpellsFields values (field ∷ fields) bytes =
    (spelled : List ℕ) × (behind : List ℕ) × (bytes ≡ 32 ∷ (spelled ++ behind)) × SpellsField values field spelled
    × SpellsFields values fields behind

-- the word and the fields for each packet
abbrev pub form_of : Packet → List ℕ × List Field
form_of Die = (codes "die", [])
form_of DiskInfo = (codes "diskinfo", [])
form_of (LocateObject lock path mode) = (codes "locate", Value lock ∷ Signed mode ∷ Text path ∷ [])
form_of (RenameDisk name) = (codes "rename-disk", Text name ∷ [])
form_of (FreeLock lock) = (codes "free", Value lock ∷ [])
form_of (CopyDir lock) = (codes "copy", Value lock ∷ [])
form_of (Parent lock) = (codes "parent", Value lock ∷ [])
form_of (ExamineObject lock) = (codes "examine", Value lock ∷ [])
form_of (Info lock) = (codes "info", Value lock ∷ [])
form_of (DeleteObject lock path) = (codes "delete", Value lock ∷ Text path ∷ [])
form_of (CreateDir lock path) = (codes "mkdir", Value lock ∷ Text path ∷ [])
form_of (RenameObject from_lock from to_lock to) =
    (codes "rename", Value from_lock ∷ Text from ∷ Value to_lock ∷ Text to ∷ [])
form_of (SetProtect lock path bits) = (codes "protect", Value lock ∷ Text path ∷ Number bits ∷ [])
form_of (SetComment lock path comment) = (codes "comment", Value lock ∷ Text path ∷ Text comment ∷ [])
form_of (SetDate lock path date) =
    (codes "date", Value lock ∷ Text path ∷ Number date.days ∷ Number date.minutes ∷ Number date.ticks ∷ [])
form_of (ExamineNext lock key) = (codes "next", Value lock ∷ Value key ∷ [])
form_of (FindUpdate lock path) = (codes "update", Value lock ∷ Text path ∷ [])
form_of (FindInput lock path) = (codes "input", Value lock ∷ Text path ∷ [])
form_of (FindOutput lock path) = (codes "output", Value lock ∷ Text path ∷ [])
form_of (Read handle buffer) = (codes "read", Value handle ∷ Zeros buffer ∷ [])
form_of (Write handle bytes) = (codes "write", Value handle ∷ LongText bytes ∷ [])
form_of (End handle) = (codes "end", Value handle ∷ [])
form_of (Seek handle offset mode) = (codes "seek", Value handle ∷ Signed offset ∷ Signed mode ∷ [])
form_of (SetFileSize handle offset mode) = (codes "size", Value handle ∷ Signed offset ∷ Signed mode ∷ [])
form_of (SameLock first second) = (codes "same", Value first ∷ Value second ∷ [])
form_of (Other action) = (codes "other", Signed action ∷ [])

-- with these values of earlier replies, the line stands for this packet
abbrev pub IsPacketLine : List (Option ℕ) → Packet → List ℕ → Type 0
IsPacketLine values packet line =
    (rest : List ℕ) × (line ≡ (form_of packet).0 ++ rest) × SpellsFields values (form_of packet).1 rest

-- the line stands for no packet
abbrev pub IsFaulty : List (Option ℕ) → List ℕ → Type 0
IsFaulty values line = (packet : Packet) → IsPacketLine values packet line → ⊥
