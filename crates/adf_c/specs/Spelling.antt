-- The packet that a struct of C stands for.
use Rattle.std.specs.Prelude.{◌≡◌, ◌≢◌, ℕ, ℤ, pos, List}
use Rattle.ados_model.specs.Actions.{action_number}
use Rattle.ados_model.specs.declared.action.Action.{Action}
use Rattle.ados_model.specs.declared.action.Action.TheVariants as action
use Rattle.ados_model.specs.declared.packet.Packet.{Packet}
use Rattle.ados_model.specs.declared.packet.Packet.TheVariants.{Die, LocateObject, RenameDisk, FreeLock, DeleteObject, RenameObject, CopyDir, SetProtect, CreateDir, ExamineObject, ExamineNext, DiskInfo, Info, SetComment, Parent, SetDate, SameLock, Read, Write, FindUpdate, FindInput, FindOutput, End, Seek, SetFileSize, Other}
use Rattle.adf_c.specs.Dates.{date_of}
use Rattle.adf_c.specs.declared.packet.JipPacket.{JipPacket}

-- no action with a name has this number
abbrev pub HasNoName : ℤ → Type 0
HasNoName n =
    (n ≢ pos 5) × (n ≢ pos 8) × (n ≢ pos 9) × (n ≢ pos 15) × (n ≢ pos 16) × (n ≢ pos 17) × (n ≢ pos 19) × (n ≢ pos 21) × (n ≢ pos 22)
    × (n ≢ pos 23) × (n ≢ pos 24) × (n ≢ pos 25) × (n ≢ pos 26) × (n ≢ pos 28) × (n ≢ pos 29) × (n ≢ pos 34) × (n ≢ pos 40) × (n ≢ pos 82)
    × (n ≢ pos 87) × (n ≢ pos 1004) × (n ≢ pos 1005) × (n ≢ pos 1006) × (n ≢ pos 1007) × (n ≢ pos 1008) × (n ≢ pos 1022)

-- the action has this number; it is `Other` only if no action with a name has it
abbrev pub IsActionOf : ℤ → Action → Type 0
IsActionOf n (action.Other k) = (k ≡ n) × HasNoName n
IsActionOf n named = action_number named ≡ n

-- the bytes of an action's packet: the caller's buffer for a READ, otherwise `bytes`
abbrev pub carried : Action → List ℕ → List ℕ → List ℕ
carried action.Read bytes buffer = buffer
carried _ bytes buffer = bytes

-- the packet of an action, with the struct's arguments, two texts and these bytes
abbrev pub packet_of : Action → JipPacket → List ℕ → List ℕ → List ℕ → Packet
packet_of action.Die c path text buffer = Die
packet_of action.LocateObject c path text buffer = LocateObject c.lock path c.mode
packet_of action.RenameDisk c path text buffer = RenameDisk path
packet_of action.FreeLock c path text buffer = FreeLock c.lock
packet_of action.DeleteObject c path text buffer = DeleteObject c.lock path
packet_of action.RenameObject c path text buffer = RenameObject c.lock path c.to_lock text
packet_of action.CopyDir c path text buffer = CopyDir c.lock
packet_of action.SetProtect c path text buffer = SetProtect c.lock path c.bits
packet_of action.CreateDir c path text buffer = CreateDir c.lock path
packet_of action.ExamineObject c path text buffer = ExamineObject c.lock
packet_of action.ExamineNext c path text buffer = ExamineNext c.lock c.key
packet_of action.DiskInfo c path text buffer = DiskInfo
packet_of action.Info c path text buffer = Info c.lock
packet_of action.SetComment c path text buffer = SetComment c.lock path text
packet_of action.Parent c path text buffer = Parent c.lock
packet_of action.SetDate c path text buffer = SetDate c.lock path (date_of c.date)
packet_of action.SameLock c path text buffer = SameLock c.lock c.to_lock
packet_of action.Read c path text buffer = Read c.handle buffer
packet_of action.Write c path text buffer = Write c.handle buffer
packet_of action.FindUpdate c path text buffer = FindUpdate c.lock path
packet_of action.FindInput c path text buffer = FindInput c.lock path
packet_of action.FindOutput c path text buffer = FindOutput c.lock path
packet_of action.End c path text buffer = End c.handle
packet_of action.Seek c path text buffer = Seek c.handle c.offset c.mode
packet_of action.SetFileSize c path text buffer = SetFileSize c.handle c.offset c.mode
packet_of (action.Other n) c path text buffer = Other n

-- the struct, with these texts, these bytes and the caller's buffer, stands for the packet
abbrev pub Spells : JipPacket → List ℕ → List ℕ → List ℕ → List ℕ → Packet → Type 0
Spells c path text bytes buffer packet =
    (kind : Action) × IsActionOf c.action kind × (packet ≡ packet_of kind c path text (carried kind bytes buffer))
