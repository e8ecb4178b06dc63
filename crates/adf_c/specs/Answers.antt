-- The answers for C.
use Rattle.std.specs.Prelude.{ℕ, ◌-◌, pos, Bool, true, false, List, ◌++◌, length, replicate, if◌then◌else◌, ◌==◌}
use Rattle.ados_model.specs.declared.answer.Answer.{Answer}
use Rattle.ados_model.specs.declared.packet.Packet.{Packet}
use Rattle.ados_model.specs.declared.packet.Packet.TheVariants.{Read}
use Rattle.ados_model.specs.declared.answer.Body.{Body}
use Rattle.ados_model.specs.declared.answer.Body.TheVariants.{Buffer, Handle, Entry, Disk}
use Rattle.ados_model.specs.declared.answer.FileInfo.{FileInfo}
use Rattle.ados_model.specs.declared.answer.DiskInfo.{DiskInfo}
use Rattle.adf_c.specs.Dates.{told_date}
use Rattle.adf_c.specs.declared.values.answer.JipAnswer.{JipAnswer}
use Rattle.adf_c.specs.declared.values.answer.JipEntry.{JipEntry}
use Rattle.adf_c.specs.declared.values.answer.JipDisk.{JipDisk}

-- a text in n cells, with zeros after it
abbrev pub cells_of : ℕ → List ℕ → List ℕ
cells_of n text = text ++ replicate (n - length text) 0

-- the same for C, with its texts in cells
abbrev pub entry_of : FileInfo → JipEntry
entry_of e = record {
  key = e.key;
  entry_type = e.entry_type;
  protection = e.protection.0;
  size = e.size;
  blocks = e.blocks;
  date = told_date e.date;
  name_length = length e.name;
  comment_length = length e.comment;
  name = cells_of 32 e.name;
  comment = cells_of 80 e.comment;
}

abbrev pub disk_of : DiskInfo → JipDisk
disk_of d = record { state = d.state; blocks = d.blocks; used = d.used; bytes_per_block = d.bytes_per_block; disk_type = d.disk_type }

-- an entry of zeros
abbrev pub no_entry : JipEntry
no_entry = record {
  key = 0;
  entry_type = pos 0;
  protection = 0;
  size = 0;
  blocks = 0;
  date = record { days = 0; minutes = 0; ticks = 0 };
  name_length = 0;
  comment_length = 0;
  name = replicate 32 0;
  comment = replicate 80 0;
}

abbrev pub no_disk : JipDisk
no_disk = record { state = 0; blocks = 0; used = 0; bytes_per_block = 0; disk_type = 0 }

-- the field of each kind for a body; zeros if the body is of another kind
abbrev pub told_handle : Body → ℕ
told_handle (Handle number) = number
told_handle _ = 0

abbrev pub told_entry : Body → JipEntry
told_entry (Entry info) = entry_of info
told_entry _ = no_entry

abbrev pub told_disk : Body → JipDisk
told_disk (Disk info) = disk_of info
told_disk _ = no_disk

-- the answer for C, without the bytes of a buffer
abbrev pub told_of : Answer → JipAnswer
told_of answer = record {
  res1 = answer.res1;
  res2 = answer.res2;
  handle = told_handle answer.body;
  entry = told_entry answer.body;
  disk = told_disk answer.body;
}

-- the caller's buffer with the bytes that a body returns, if the lengths are equal
abbrev pub handed_back : List ℕ → Body → List ℕ
handed_back before (Buffer bytes) = if length bytes == length before then bytes else before
handed_back before _ = before

-- the packet fills the buffer: only READ does
abbrev pub fills : Packet → Bool
fills (Read handle buffer) = true
fills _ = false

-- the caller's buffer after the answer
abbrev pub buffer_after : Packet → List ℕ → Body → List ℕ
buffer_after packet before body = if fills packet then handed_back before body else before
