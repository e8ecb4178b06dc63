-- The meaning of packets keeps tree and session proper.
use Rattle.ados_handler.proofs.Common.{dos_true, Die, LocateObject, RenameDisk, FreeLock, DeleteObject, RenameObject, CopyDir, SetProtect, CreateDir, ExamineObject, ExamineNext, DiskInfo, Info, SetComment, Parent, SetDate, SameLock, Read, Write, FindUpdate, FindInput, FindOutput, End, Seek, SetFileSize, Other, MeaningKeepsProper}
use Rattle.ados_handler.proofs.Reading.{by_success, same, die, free_lock, copy, locate, find_input, parent, end, read, seek}
use Rattle.ados_handler.proofs.Telling.{set_protect_keeps, set_comment_keeps, set_date_keeps, rename_disk_keeps}
use Rattle.ados_handler.proofs.Rewriting.{write_keeps, set_file_size_keeps}
use Rattle.ados_handler.proofs.Making.{create_dir_keeps, find_update_keeps, find_output_keeps}
use Rattle.ados_handler.proofs.Unlisting.{delete_keeps, rename_keeps}

pub meaning_keeps_proper : MeaningKeepsProper
meaning_keeps_proper Die valid = by_success Die (λ t s now result proper session none w. die t s now result proper session w)
meaning_keeps_proper (LocateObject lock path mode) valid = by_success (LocateObject lock path mode) (λ t s now result proper session none w. locate t s now result proper session lock path mode none w)
meaning_keeps_proper (FreeLock lock) valid = by_success (FreeLock lock) (λ t s now result proper session none w. free_lock t s now result proper session lock w)
meaning_keeps_proper (CopyDir lock) valid = by_success (CopyDir lock) (λ t s now result proper session none w. copy t s now result proper session lock none w)
meaning_keeps_proper (ExamineObject lock) valid = by_success (ExamineObject lock) (λ t s now result proper session none w. same t s now result proper session dos_true _ w.2)
meaning_keeps_proper (ExamineNext lock key) valid = by_success (ExamineNext lock key) (λ t s now result proper session none w. same t s now result proper session dos_true _ w.3.2)
meaning_keeps_proper DiskInfo valid = by_success DiskInfo (λ t s now result proper session none w. same t s now result proper session dos_true _ w)
meaning_keeps_proper (Info lock) valid = by_success (Info lock) (λ t s now result proper session none w. same t s now result proper session dos_true _ w)
meaning_keeps_proper (Parent lock) valid = by_success (Parent lock) (λ t s now result proper session none w. parent t s now result proper session lock none w)
meaning_keeps_proper (SameLock first second) valid = by_success (SameLock first second) (λ t s now result proper session none w. same t s now result proper session _ _ w)
meaning_keeps_proper (Read handle buffer) valid = by_success (Read handle buffer) (λ t s now result proper session none w. read t s now result proper session handle buffer none w)
meaning_keeps_proper (FindInput lock path) valid = by_success (FindInput lock path) (λ t s now result proper session none w. find_input t s now result proper session lock path none w)
meaning_keeps_proper (End handle) valid = by_success (End handle) (λ t s now result proper session none w. end t s now result proper session handle w)
meaning_keeps_proper (Seek handle offset mode) valid = by_success (Seek handle offset mode) (λ t s now result proper session none w. seek t s now result proper session handle offset mode none w)
meaning_keeps_proper (Other action) valid = by_success (Other action) (λ t s now result proper session none w. elim w [ ])
meaning_keeps_proper (RenameDisk name) valid = rename_disk_keeps name valid
meaning_keeps_proper (DeleteObject lock path) valid = delete_keeps lock path
meaning_keeps_proper (RenameObject from_lock from to_lock to) valid = rename_keeps from_lock from to_lock to valid.1
meaning_keeps_proper (SetProtect lock path bits) valid = set_protect_keeps lock path bits
meaning_keeps_proper (CreateDir lock path) valid = create_dir_keeps lock path valid
meaning_keeps_proper (SetComment lock path comment) valid = set_comment_keeps lock path comment valid.1
meaning_keeps_proper (SetDate lock path date) valid = set_date_keeps lock path date
meaning_keeps_proper (Write handle bytes) valid = write_keeps handle bytes
meaning_keeps_proper (FindUpdate lock path) valid = find_update_keeps lock path valid
meaning_keeps_proper (FindOutput lock path) valid = find_output_keeps lock path valid
meaning_keeps_proper (SetFileSize handle offset mode) valid = set_file_size_keeps handle offset mode
