-- The numbers of errors and of actions (AmigaDOS Technical Reference), the first result of a refusal, and what it
-- returns.
use Rattle.std.specs.Prelude.{ℕ, ℤ, pos, negsuc}
pub use Rattle.ados_model.specs.declared.dos_error.DosError.{DosError}
pub use Rattle.ados_model.specs.declared.dos_error.DosError.TheVariants.{NoFreeStore, ObjectInUse, ObjectExists}
pub use Rattle.ados_model.specs.declared.dos_error.DosError.TheVariants.{DirectoryNotFound, ObjectNotFound}
pub use Rattle.ados_model.specs.declared.dos_error.DosError.TheVariants.{ActionNotKnown, InvalidComponentName}
pub use Rattle.ados_model.specs.declared.dos_error.DosError.TheVariants.{InvalidLock, ObjectWrongType}
pub use Rattle.ados_model.specs.declared.dos_error.DosError.TheVariants.{DirectoryNotEmpty, DeviceNotMounted}
pub use Rattle.ados_model.specs.declared.dos_error.DosError.TheVariants.{SeekError, CommentTooBig, DiskFull}
pub use Rattle.ados_model.specs.declared.dos_error.DosError.TheVariants.{DeleteProtected, WriteProtected}
pub use Rattle.ados_model.specs.declared.dos_error.DosError.TheVariants.{ReadProtected, NotADosDisk, NoMoreEntries}
pub use Rattle.ados_model.specs.declared.packet.{TheConstants.NO_LOCK, Packet.Packet}
pub use Rattle.ados_model.specs.declared.packet.Packet.TheVariants.{Die, LocateObject, RenameDisk, FreeLock}
pub use Rattle.ados_model.specs.declared.packet.Packet.TheVariants.{DeleteObject, RenameObject, CopyDir, SetProtect}
pub use Rattle.ados_model.specs.declared.packet.Packet.TheVariants.{CreateDir, ExamineObject, ExamineNext, DiskInfo}
pub use Rattle.ados_model.specs.declared.packet.Packet.TheVariants.{Info, SetComment, Parent, SetDate, SameLock, Read}
pub use Rattle.ados_model.specs.declared.packet.Packet.TheVariants.{Write, FindUpdate, FindInput, FindOutput, End}
pub use Rattle.ados_model.specs.declared.packet.Packet.TheVariants.{Seek, SetFileSize, Other}
pub use Rattle.ados_model.specs.declared.answer.{Answer.Answer, Body.Body}
use Rattle.ados_model.specs.declared.answer.Body.TheVariants as body

-- the number of an error
abbrev pub error_number : DosError → ℕ
error_number NoFreeStore = 103
error_number ObjectInUse = 202
error_number ObjectExists = 203
error_number DirectoryNotFound = 204
error_number ObjectNotFound = 205
error_number ActionNotKnown = 209
error_number InvalidComponentName = 210
error_number InvalidLock = 211
error_number ObjectWrongType = 212
error_number DirectoryNotEmpty = 216
error_number DeviceNotMounted = 218
error_number SeekError = 219
error_number CommentTooBig = 220
error_number DiskFull = 221
error_number DeleteProtected = 222
error_number WriteProtected = 223
error_number ReadProtected = 224
error_number NotADosDisk = 225
error_number NoMoreEntries = 232

-- the number of a packet's action
abbrev pub action_of : Packet → ℤ
action_of Die = pos 5
action_of (LocateObject lock path mode) = pos 8
action_of (RenameDisk name) = pos 9
action_of (FreeLock lock) = pos 15
action_of (DeleteObject lock path) = pos 16
action_of (RenameObject from_lock from to_lock to) = pos 17
action_of (CopyDir lock) = pos 19
action_of (SetProtect lock path bits) = pos 21
action_of (CreateDir lock path) = pos 22
action_of (ExamineObject lock) = pos 23
action_of (ExamineNext lock key) = pos 24
action_of DiskInfo = pos 25
action_of (Info lock) = pos 26
action_of (SetComment lock path comment) = pos 28
action_of (Parent lock) = pos 29
action_of (SetDate lock path date) = pos 34
action_of (SameLock first second) = pos 40
action_of (Read handle buffer) = pos 82
action_of (Write handle bytes) = pos 87
action_of (FindUpdate lock path) = pos 1004
action_of (FindInput lock path) = pos 1005
action_of (FindOutput lock path) = pos 1006
action_of (End handle) = pos 1007
action_of (Seek handle offset mode) = pos 1008
action_of (SetFileSize handle offset mode) = pos 1022
action_of (Other number) = number

-- the first results DOSTRUE and DOSFALSE
abbrev pub dos_true : ℤ
dos_true = negsuc 0

abbrev pub dos_false : ℤ
dos_false = pos 0

-- the first result of a refusal: -1 for a READ, WRITE or SEEK, else DOSFALSE
abbrev pub failure_of : Packet → ℤ
failure_of (Read handle buffer) = negsuc 0
failure_of (Write handle bytes) = negsuc 0
failure_of (Seek handle offset mode) = negsuc 0
failure_of _ = dos_false

-- what a refusal returns: the packet's own buffer, unchanged
abbrev pub handed_back : Packet → Body
handed_back (Read handle buffer) = body.Buffer buffer
handed_back (Write handle bytes) = body.Buffer bytes
handed_back _ = body.Empty

-- the answer to a packet that is refused with this error
abbrev pub refused_answer : Packet → DosError → Answer
refused_answer packet error =
    record {
      action = action_of packet;
      res1 = failure_of packet;
      res2 = pos (error_number error);
      body = handed_back packet;
    }
