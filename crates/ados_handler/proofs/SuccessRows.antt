-- Examples of served packets, computed from the definitions.
use Rattle.std.specs.Prelude.{◌≡◌, ◌==◌, if◌then◌else◌, ◌∷◌}
use Rattle.std.proofs.Common.{◌∙◌, inl, lit≤, sym, subst, MatchOption, Option}
use Rattle.std.specs.FinMap as numbered
use Rattle.ados_handler.proofs.Common.{ℕ, List, [], pos, negsuc, codes, refl, Bool, true, false, Some, None, nat_cmp, nat_cmp_total, Ffs, Date3, steps, steps_along, last_name, front, Node, Tree, Directory, File, action_of, dos_true, Packet, Die, LocateObject, SetProtect, ExamineNext, DiskInfo, SameLock, Read, Write, Seek, Body, Empty, Buffer, Disk, HandleHold, Session, opening_session, after, Meaning, refusal, IsServed, IsRefused, ServedOrNoMemory, DosError}
use Rattle.ados_model.specs.declared.answer.Answer.{Answer}
use Rattle.ados_model.specs.declared.answer.Body.TheVariants.{Entry}
use Rattle.ados_handler.proofs.RefusalRows.{no_holds}

abbrev opened : Date3
opened = record { days = 0; minutes = 0; ticks = 0 }

abbrev later : Date3
later = record { days = 5000; minutes = 600; ticks = 50 }

abbrev root_node : Node
root_node = record { name = codes "Work"; parent = None; protection = 0; date = opened; comment = []; content = Directory (4 ∷ []) }

-- the file f with these bytes
abbrev file : Date3 → ℕ → List ℕ → Node
file date bits bytes = record { name = codes "f"; parent = Some 8; protection = bits; date = date; comment = []; content = File bytes }

abbrev greeting : Node
greeting = file opened 16 (codes "hello")

-- a root with only this file
abbrev disk : Date3 → Node → Tree
disk date node = record {
  blocks = 16;
  format = Ffs;
  disk_date = date;
  creation_date = opened;
  nodes = λ key. if key == 4 then Some node else if key == 8 then Some root_node else None;
  lost = λ block. None;
}

abbrev before : Tree
before = disk opened greeting

-- the disk with another file in place of this one
replaced : {A : Type 0} (b : Bool) (x y z : A) → (if b then x else z) ≡ (if b then x else if b then y else z)
replaced true x y z = refl
replaced false x y z = refl

-- a handle on the file at this position
abbrev on_file : ℕ → HandleHold
on_file position = record { key = 4; position = position; exclusive = false }

-- lock 1 on the root, lock 2 on the file, and handle 1 on the file at position 1
abbrev holding : Session
holding = record {
  locks = numbered.insert (numbered.insert numbered.empty 1 (record { key = 8; exclusive = false })) 2 (record { key = 4; exclusive = false });
  handles = numbered.insert numbered.empty 1 (on_file 1);
  died = false;
}

-- the handle of `holding` at another position
abbrev moved : ℕ → Session
moved position = record holding { handles = numbered.insert holding.handles 1 (on_file position) }

abbrev done : Packet → Body → Answer
done packet body = record { action = action_of packet; res1 = negsuc 0; res2 = pos 0; body = body }

lock_1 : numbered.get holding.locks 1 ≡ Some (record { key = 8; exclusive = false })
lock_1 = numbered.get-insert nat_cmp_total (numbered.insert numbered.empty 1 (record { key = 8; exclusive = false })) 2 (record { key = 4; exclusive = false }) 1
    ∙ numbered.get-insert nat_cmp_total numbered.empty 1 (record { key = 8; exclusive = false }) 1

lock_2 : numbered.get holding.locks 2 ≡ Some (record { key = 4; exclusive = false })
lock_2 = numbered.get-insert nat_cmp_total (numbered.insert numbered.empty 1 (record { key = 8; exclusive = false })) 2 (record { key = 4; exclusive = false }) 2

handle_1 : numbered.get holding.handles 1 ≡ Some (on_file 1)
handle_1 = numbered.get-insert nat_cmp_total numbered.empty 1 (on_file 1) 1

-- a packet that no refusal excludes means what it does when served
served_is : (t u : Tree) (s new : Session) (packet : Packet) (now : Date3) (answer : Answer) → refusal t s packet ≡ None → IsServed t s packet now u new answer → Meaning t s packet now u new answer
served_is t u s new packet now answer none served =
    subst (λ (o : Option DosError). MatchOption o (ServedOrNoMemory t s packet now u new answer) (λ error. IsRefused t s packet error u new answer)) (sym none) (inl served)

-- SAME_LOCK: locks 0 and 1 are both on the root; locks 1 and 2 are on different objects
root_twice : Meaning before holding (SameLock 0 1) later before holding (done (SameLock 0 1) Empty)
root_twice = served_is before before holding holding (SameLock 0 1) later _ (rw lock_1 refl) (record { success = rw lock_1 refl; action = refl; res2 = refl })

root_and_file : Meaning before holding (SameLock 1 2) later before holding (record { action = pos 40; res1 = pos 0; res2 = pos 0; body = Empty })
root_and_file = served_is before before holding holding (SameLock 1 2) later _ (rw (lock_1, lock_2) refl) (record { success = rw (lock_1, lock_2) refl; action = refl; res2 = refl })

-- SEEK returns the old position: to 3 from the start, back by 1, and to the end
from_beginning : Meaning before holding (Seek 1 (pos 3) (negsuc 0)) later before (moved 3) (record { action = pos 1008; res1 = pos 1; res2 = pos 0; body = Empty })
from_beginning = served_is before before holding (moved 3) (Seek 1 (pos 3) (negsuc 0)) later _ (rw handle_1 refl) (record { success = rw handle_1 refl; action = refl; res2 = refl })

from_position : Meaning before holding (Seek 1 (negsuc 0) (pos 0)) later before (moved 0) (record { action = pos 1008; res1 = pos 1; res2 = pos 0; body = Empty })
from_position = served_is before before holding (moved 0) (Seek 1 (negsuc 0) (pos 0)) later _ (rw handle_1 refl) (record { success = rw handle_1 refl; action = refl; res2 = refl })

from_end : Meaning before holding (Seek 1 (pos 0) (pos 1)) later before (moved 5) (record { action = pos 1008; res1 = pos 1; res2 = pos 0; body = Empty })
from_end = served_is before before holding (moved 5) (Seek 1 (pos 0) (pos 1)) later _ (rw handle_1 refl) (record { success = rw handle_1 refl; action = refl; res2 = refl })

-- READ: three bytes; and fewer than requested at the end, with the rest of the buffer unchanged
read_within : Meaning before holding (Read 1 (codes "...")) later before (moved 4) (record { action = pos 82; res1 = pos 3; res2 = pos 0; body = Buffer (codes "ell") })
read_within = served_is before before holding (moved 4) (Read 1 (codes "...")) later _ (rw handle_1 refl) (record { success = rw handle_1 refl; action = refl; res2 = refl })

read_to_end : Meaning before holding (Read 1 (codes "......")) later before (moved 5) (record { action = pos 82; res1 = pos 4; res2 = pos 0; body = Buffer (codes "ello..") })
read_to_end = served_is before before holding (moved 5) (Read 1 (codes "......")) later _ (rw handle_1 refl) (record { success = rw handle_1 refl; action = refl; res2 = refl })

-- SET_PROTECT: the file has the bits, and the disk has the date
protected : Meaning before holding (SetProtect 0 (codes "F") 5) later (disk later (file opened 5 (codes "hello"))) holding (done (SetProtect 0 (codes "F") 5) Empty)
unfolding steps steps_along last_name front
protected = served_is before (disk later (file opened 5 (codes "hello"))) holding holding (SetProtect 0 (codes "F") 5) later _ refl (record {
  success = λ i. after (record (disk later greeting) { nodes = λ key. replaced (key == 4) (Some (file opened 5 (codes "hello"))) (Some greeting) (if key == 8 then Some root_node else None) i }) holding dos_true Empty;
  action = refl;
  res2 = refl;
})

-- WRITE: two bytes over those of the file; its date is the time stamp, and its archive bit is clear
overwritten : Meaning before holding (Write 1 (codes "HI")) later (disk later (file later 0 (codes "hHIlo"))) (moved 3) (record { action = pos 87; res1 = pos 2; res2 = pos 0; body = Buffer (codes "HI") })
overwritten = served_is before (disk later (file later 0 (codes "hHIlo"))) holding (moved 3) (Write 1 (codes "HI")) later _ (rw handle_1 refl) (record {
  success = rw handle_1 (λ i. after (record (disk later greeting) { nodes = λ key. replaced (key == 4) (Some (file later 0 (codes "hHIlo"))) (Some greeting) (if key == 8 then Some root_node else None) i }) (moved 3) (pos 2) (Buffer (codes "HI")));
  action = refl;
  res2 = refl;
})

-- LOCATE_OBJECT: a shared lock on the file
abbrev located : Session
located = record opening_session { locks = numbered.insert numbered.empty 1 (record { key = 4; exclusive = false }) }

shared_lock : Meaning before opening_session (LocateObject 0 (codes "f") (negsuc 1)) later before located (record { action = pos 8; res1 = pos 1; res2 = pos 0; body = Empty })
unfolding steps steps_along last_name front
shared_lock = served_is before before opening_session located (LocateObject 0 (codes "f") (negsuc 1)) later _ (rw no_holds refl) (record {
  success = (1, (lit≤ tt, lit≤ tt, numbered.get-empty nat_cmp 1), refl);
  action = refl;
  res2 = refl;
})

-- EXAMINE_NEXT: the first entry of the root
first_entry : Meaning before holding (ExamineNext 0 8) later before holding (done (ExamineNext 0 8) (Entry (record { key = 4; entry_type = negsuc 2; name = codes "f"; protection = record { 0 = 16 }; size = 5; blocks = 2; date = opened; comment = [] })))
first_entry = served_is before before holding holding (ExamineNext 0 8) later _ refl (record { success = (4, [], refl, (greeting, refl, refl)); action = refl; res2 = refl })

-- DISK_INFO: of the 14 blocks after the boot blocks, the root, the bitmap block and the file's two are in use
told_of_disk : Meaning before holding DiskInfo later before holding (done DiskInfo (Disk (record { state = 82; blocks = 14; used = 4; bytes_per_block = 512; disk_type = 0x444F5301 })))
told_of_disk = served_is before before holding holding DiskInfo later _ refl (record { success = refl; action = refl; res2 = refl })

-- DIE: nothing is held
dies : Meaning before opening_session Die later before (record opening_session { died = true }) (done Die Empty)
dies = served_is before before opening_session (record opening_session { died = true }) Die later _ (rw no_holds refl) (record { success = refl; action = refl; res2 = refl })
