-- The actions and their numbers, and the action of each packet.
use Rattle.std.specs.Prelude.{ℤ, pos}
use Rattle.ados_model.specs.declared.action.Action.{Action}
use Rattle.ados_model.specs.declared.action.Action.TheVariants as action
use Rattle.ados_model.specs.declared.packet.Packet.{Packet}
use Rattle.ados_model.specs.declared.packet.Packet.TheVariants.{Die, LocateObject, RenameDisk, FreeLock, DeleteObject, RenameObject, CopyDir, SetProtect, CreateDir, ExamineObject, ExamineNext, DiskInfo, Info, SetComment, Parent, SetDate, SameLock, Read, Write, FindUpdate, FindInput, FindOutput, End, Seek, SetFileSize, Other}

-- the number of an action
abbrev pub action_number : Action → ℤ
action_number action.Die = pos 5
action_number action.LocateObject = pos 8
action_number action.RenameDisk = pos 9
action_number action.FreeLock = pos 15
action_number action.DeleteObject = pos 16
action_number action.RenameObject = pos 17
action_number action.CopyDir = pos 19
action_number action.SetProtect = pos 21
action_number action.CreateDir = pos 22
action_number action.ExamineObject = pos 23
action_number action.ExamineNext = pos 24
action_number action.DiskInfo = pos 25
action_number action.Info = pos 26
action_number action.SetComment = pos 28
action_number action.Parent = pos 29
action_number action.SetDate = pos 34
action_number action.SameLock = pos 40
action_number action.Read = pos 82
action_number action.Write = pos 87
action_number action.FindUpdate = pos 1004
action_number action.FindInput = pos 1005
action_number action.FindOutput = pos 1006
action_number action.End = pos 1007
action_number action.Seek = pos 1008
action_number action.SetFileSize = pos 1022
action_number (action.Other number) = number

-- the action of a packet
abbrev pub kind_of : Packet → Action
kind_of Die = action.Die
kind_of (LocateObject lock path mode) = action.LocateObject
kind_of (RenameDisk name) = action.RenameDisk
kind_of (FreeLock lock) = action.FreeLock
kind_of (DeleteObject lock path) = action.DeleteObject
kind_of (RenameObject from_lock from to_lock to) = action.RenameObject
kind_of (CopyDir lock) = action.CopyDir
kind_of (SetProtect lock path bits) = action.SetProtect
kind_of (CreateDir lock path) = action.CreateDir
kind_of (ExamineObject lock) = action.ExamineObject
kind_of (ExamineNext lock key) = action.ExamineNext
kind_of DiskInfo = action.DiskInfo
kind_of (Info lock) = action.Info
kind_of (SetComment lock path comment) = action.SetComment
kind_of (Parent lock) = action.Parent
kind_of (SetDate lock path date) = action.SetDate
kind_of (SameLock first second) = action.SameLock
kind_of (Read handle buffer) = action.Read
kind_of (Write handle bytes) = action.Write
kind_of (FindUpdate lock path) = action.FindUpdate
kind_of (FindInput lock path) = action.FindInput
kind_of (FindOutput lock path) = action.FindOutput
kind_of (End handle) = action.End
kind_of (Seek handle offset mode) = action.Seek
kind_of (SetFileSize handle offset mode) = action.SetFileSize
kind_of (Other number) = action.Other number
